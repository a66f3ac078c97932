-- An instruction, executed on a record and in a view.
use Rattle.std.specs.Prelude.{Bool, ℕ, ◌%◌, ◌+◌, ◌<◌, ◌||◌, ◌≡◌, ◌≤◌}
use Rattle.tierra_model.specs.declared.creatures.Creature.{Creature}
use Rattle.tierra_model.specs.declared.events.Act.{Act}
use Rattle.tierra_model.specs.declared.events.Act.TheVariants as act
use Rattle.tierra_model.specs.declared.events.Event.TheVariants as event
use Rattle.tierra_model.specs.declared.parameters.Settings.{Settings}
use Rattle.tierra_model.specs.Blocks.{is_in, is_in_daughter}
use Rattle.tierra_model.specs.Events.{record_after}
use Rattle.tierra_model.specs.Look.{Look, pass}
use Rattle.tierra_model.specs.Step.{Outcome}

-- the record with which an instruction begins: ip is at the next cell, and ran counts it
abbrev pub start_record : Settings → Creature → Creature
start_record s c = record c { ip = (c.ip + 1) % s.soup_size; flag = 0; ran = c.ran + 1 }

-- the view after the act: a write is done
abbrev pub view_after : {S : Type 0} → (S → ℕ → ℕ → S) → Act → S → S
view_after written act.Plain v = v
view_after written (act.Wrote at value) v = written v at value
view_after written act.Erred v = v
view_after written (act.Mal size) v = v
view_after written act.Divide v = v

-- the record after the act: an error is counted
abbrev pub creature_after : Act → Creature → Creature
creature_after act.Plain c = c
creature_after (act.Wrote at value) c = c
creature_after act.Erred c = record_after event.Err c
creature_after (act.Mal size) c = c
creature_after act.Divide c = c

-- the view and the record, once the act is done, and the act
abbrev pub after_act : {S : Type 0} → (S → ℕ → ℕ → S) → S × Outcome → S × Outcome
after_act written r =
    let (v, outcome) = r in
    let (c, a) = outcome in
    (view_after written a v, (creature_after a c, a))

-- From view v, once the looks and the act that they lead to are done, the view is u, the record is c, and the act is a.
abbrev pub Executes : {S : Type 0} → (S → ℕ → ℕ) → (S → ℕ → S) → (S → ℕ → ℕ → S) → Look Outcome → S → S → Creature
    → Act → Type 0
Executes cells looked written t v u c a = after_act written (pass cells looked t v) ≡ (u, (c, a))

-- A step can be executed: the view is of the whole soup, whose cells hold codes of instructions, and may write the
-- creature's own cells alone; ip is in the soup, and sp on the stack.
pub record CanExecute {S : Type 0} (size_of : S → ℕ) (cells : S → ℕ → ℕ) (writable : S → ℕ → Bool) (s : Settings)
    (c : Creature) (v : S) : Type 0 where
  pub size : size_of v ≡ s.soup_size
  pub codes : (p : ℕ) → p < s.soup_size → cells v p < 32
  pub own : (p : ℕ) → p < s.soup_size → writable v p ≡ (is_in c.own p || is_in_daughter c.daughter p)
  pub ip : c.ip < s.soup_size
  pub sp : c.sp < 10

-- what a step keeps of a record, and what it adds to its counts
pub record IsAfterStep (before after : Creature) : Type 0 where
  pub id : after.id ≡ before.id
  pub own : after.own ≡ before.own
  pub daughter : after.daughter ≡ before.daughter
  pub genotype : after.genotype ≡ before.genotype
  pub bred : after.bred ≡ before.bred
  pub ran : after.ran ≡ before.ran + 1
  pub moved : after.moved ≤ before.moved + 1
  pub errors : after.errors ≤ before.errors + 1
