-- What the stage of another seat says after a step: the only places where the stages of other seats are looked at.
use Rattle.std.proofs.Common.{◌≡◌, ◌≢◌, ℕ, ◌+◌, List, sym, ap, ◌∙◌, arith}
use Rattle.turn_lock.specs.declared.view.Stage.{Stage}
use Rattle.turn_lock.specs.declared.view.Stage.TheVariants.{Spent, Idle, Waiting, Called, Holding}
use Rattle.turn_lock.specs.View.{IsActive, IsHolding}
use Rattle.turn_lock.specs.Rule.{StageFits}
use Rattle.turn_lock.proofs.Places.{put, put_else}

pub active_holding : (stage : Stage) → IsHolding stage → IsActive stage
active_holding Spent h = h
active_holding Idle h = tt
active_holding (Waiting n) h = tt
active_holding (Called n read) h = tt
active_holding (Holding n read) h = tt

module _ (t serving : ℕ) (counts : List ℕ) (holder : ℕ → ℕ) where
  -- a ticket is drawn
  pub fits_after_draw : (id j : ℕ) (stage : Stage) → StageFits t serving counts holder j stage
      → StageFits (t + 1) serving counts (put holder t id) j stage
  fits_after_draw id j Spent k = tt
  fits_after_draw id j Idle k = tt
  fits_after_draw id j (Waiting n) k = let low = k.1 in (k.0, omega arith, put_else holder t id n (λ e. omega arith) ∙ k.2)
  fits_after_draw id j (Called n read) k = let low = k.1 in (k.0, omega arith, put_else holder t id n (λ e. omega arith) ∙ k.2, k.3)
  fits_after_draw id j (Holding n read) k = let low = k.1 in (k.0, omega arith, put_else holder t id n (λ e. omega arith) ∙ k.2, k.3)

  -- the seat that holds the slot is the one that is served
  pub holding_served : (j : ℕ) (stage : Stage) → StageFits t serving counts holder j stage → IsHolding stage → holder serving ≡ j
  holding_served j Spent k h = absurd h
  holding_served j Idle k h = absurd h
  holding_served j (Waiting n) k h = absurd h
  holding_served j (Called n read) k h = absurd h
  holding_served j (Holding n read) k h = ap holder (sym k.0) ∙ k.2

  -- the counts change while another seat is served
  pub fits_after_publish : (counts' : List ℕ) (j : ℕ) (stage : Stage) → j ≢ holder serving → StageFits t serving counts holder j stage
      → StageFits t serving counts' holder j stage
  fits_after_publish counts' j Spent other k = tt
  fits_after_publish counts' j Idle other k = tt
  fits_after_publish counts' j (Waiting n) other k = k
  fits_after_publish counts' j (Called n read) other k = absurd (other (sym k.2 ∙ ap holder k.0))
  fits_after_publish counts' j (Holding n read) other k = absurd (other (sym k.2 ∙ ap holder k.0))

  -- the next ticket is served
  pub fits_after_pass : (j : ℕ) (stage : Stage) → j ≢ holder serving → StageFits t serving counts holder j stage
      → StageFits t (serving + 1) counts holder j stage
  fits_after_pass j Spent other k = tt
  fits_after_pass j Idle other k = tt
  fits_after_pass j (Waiting n) other k = let low = k.0 in let ne : n ≢ serving = λ e. other (sym k.2 ∙ ap holder e) in (omega arith, k.1, k.2)
  fits_after_pass j (Called n read) other k = absurd (other (sym k.2 ∙ ap holder k.0))
  fits_after_pass j (Holding n read) other k = absurd (other (sym k.2 ∙ ap holder k.0))
