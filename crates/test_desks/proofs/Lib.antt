mod CrashSteps
mod DeskSteps
mod KeptSteps
mod MomentSteps
mod NextSteps
