-- What the program promises: the records of the top call, over its words, input and output.
use Rattle.std.specs.Prelude.{ℕ, List, Option}
use Rattle.file_desk.specs.Printed.{desk_of}
use Rattle.soup_top.specs.Calls.{Call, CallsNoMore, ComesToSameEnd, HasItsCause, HasRightText, KeepsLinesUp}
use Rattle.soup_top.specs.Calls.{LeavesTrueGenebank}
use Rattle.soup_top.specs.Calls.{SparesRefusedFile, TellsNothingElse, TellsWhatIsAsked}
use Rattle.soup_top.specs.declared.status.Status.{Status}

-- how often reads, disk calls and tells failed
pub record Faults : Type 0 where
  pub reads : ℕ
  pub disk : ℕ
  pub tells : ℕ

-- The run of the program as a call of the top call: what the input tells of the bytes still to come, and the output of
-- those that it has taken, as the run begins and as it ends; and that both are as they were.
abbrev pub call_of : List (List ℕ) → Option (List ℕ) → Option (List ℕ) → Type 0 → Option (List ℕ) → Option (List ℕ)
    → Type 0 → Faults → Status → Call
call_of words input input_after leaves_input output output_after leaves_output f status = record {
  words = words;
  source = record { left = input; faults = 0 };
  source_after = record { left = input_after; faults = f.reads };
  desk = desk_of output 0 0;
  desk_after = desk_of output_after f.disk f.tells;
  leaves_source = leaves_input;
  leaves_desk = leaves_output;
  status = status;
}

-- all promises of the top call
pub record KeepsPromises (c : Call) : Type 0 where
  pub run : HasRightText c
  pub crash : LeavesTrueGenebank c
  pub lines : KeepsLinesUp c
  pub hold : ComesToSameEnd c
  pub actions : TellsWhatIsAsked c
  pub refusals : HasItsCause c
  pub output : TellsNothingElse c
  pub file : SparesRefusedFile c
  pub calls : CallsNoMore c
