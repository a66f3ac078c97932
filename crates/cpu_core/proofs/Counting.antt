-- What a step adds to the counts, and where it writes.
use Rattle.std.proofs.Common.{◌≡◌, ℕ, ◌+◌, ◌≤◌, Bool, true, false, cond, refl, arith}
use Rattle.std.specs.Prelude.{None, Option, Some, ℤ, if◌then◌else◌, ◌||◌}
use Rattle.tierra_model.specs.declared.creatures.Creature.{Creature}
use Rattle.tierra_model.specs.declared.events.Act.{Act}
use Rattle.tierra_model.specs.declared.events.Act.TheVariants as act
use Rattle.tierra_model.specs.declared.ops.Op.{Op}
use Rattle.tierra_model.specs.declared.ops.Op.TheVariants.{Adr, AdrB, AdrF, Call, Divide, Jmp, JmpB, Mal, MovIab}
use Rattle.tierra_model.specs.declared.parameters.Settings.{Settings}
use Rattle.tierra_model.specs.declared.searching.Found.{Found}
use Rattle.tierra_model.specs.declared.searching.Found.TheVariants as found
use Rattle.tierra_model.specs.declared.searching.Way.{Way}
use Rattle.tierra_model.specs.declared.searching.Way.TheVariants.{Backward, Forward, Outward}
use Rattle.tierra_model.specs.Blocks.{is_in, is_in_daughter}
use Rattle.tierra_model.specs.Draw.{copy_bit, flaw}
use Rattle.tierra_model.specs.Look.{Look}
use Rattle.tierra_model.specs.Ring.{address}
use Rattle.tierra_model.specs.Step.{Outcome, copy, execute, mal_act, mal_request, may_divide, step, to_found}
use Rattle.tierra_model.specs.Table.{op_of}
use Rattle.tierra_model.proofs.Records.{Always, always-any}
use Rattle.cpu_core.specs.Executing.{start_record}
use Rattle.cpu_core.specs.Searching.{search_by, search_outcome}

-- a write is to a cell of the creature's blocks
abbrev pub WritesOwn : Creature → Act → Type 0
WritesOwn c act.Plain = Unit {0}
WritesOwn c (act.Wrote at value) = (is_in c.own at || is_in_daughter c.daughter at) ≡ true
WritesOwn c act.Erred = Unit {0}
WritesOwn c (act.Mal size) = Unit {0}
WritesOwn c act.Divide = Unit {0}

if_always_when : {A : Type 0} (P : A → Type 0) (b : Bool) (t u : Look A) → (b ≡ true → Always P t) → Always P u → Always P (cond b t u)
if_always_when P true t u h k = h refl
if_always_when P false t u h k = k

-- the creature ran k instructions and moved at most m
abbrev pub Counts : ℕ → ℕ → Creature → Outcome → Type 0
Counts k m c o = (o.0.ran ≡ k) × (o.0.moved ≤ m) × WritesOwn c o.1

module _ (k m : ℕ) (c : Creature) (ran : c.ran ≡ k) (moved : c.moved + 1 ≤ m) where
  found_counts : (go : ℕ → Creature) (f : Found) → ((p : ℕ) → ((go p).ran ≡ k) × ((go p).moved ≤ m)) → Always (Counts k m c) (to_found c go f)
  found_counts go found.Short h = (ran, omega arith, tt)
  found_counts go found.NoMatch h = (ran, omega arith, tt)
  found_counts go (found.At p) h = ((h p).0, (h p).1, tt)

  search_outcome_counts : (s : Settings) (ip : ℕ) (way : Way) (go : ℕ → Creature) → ((p : ℕ) → ((go p).ran ≡ k) × ((go p).moved ≤ m))
      → Always (Counts k m c) (search_outcome s ip way c go)
  search_outcome_counts s ip way go h = always-any (Counts k m c) (search_by s ip way) (to_found c go) (λ f. found_counts go f h)

  moved_by : (b : Bool) → (if b then c.moved + 1 else c.moved) ≤ m
  moved_by true = omega arith
  moved_by false = omega arith

  copy_counts : (from to : ℕ) (bit : Option ℕ) → Always (Counts k m c) (copy c from to bit)
  copy_counts from to bit =
      if_always_when (Counts k m c) (is_in c.own to || is_in_daughter c.daughter to) _ _
      (λ e v below. (ran, moved_by (is_in_daughter c.daughter to), e)) (ran, omega arith, tt)

  mal_writes : (o : Option ℕ) → WritesOwn c (mal_act o)
  mal_writes None = tt
  mal_writes (Some size) = tt

  divide_writes : (b : Bool) → WritesOwn c (if b then act.Divide else act.Erred)
  divide_writes true = tt
  divide_writes false = tt

  execute_counts : (s : Settings) (f : ℤ) (bit : Option ℕ) (ip : ℕ) (op : Op) → Always (Counts k m c) (execute s f bit ip c op)
  execute_counts s f bit ip Jmp = search_outcome_counts s ip Outward _ (λ p. (ran, omega arith))
  execute_counts s f bit ip JmpB = search_outcome_counts s ip Backward _ (λ p. (ran, omega arith))
  execute_counts s f bit ip Call = search_outcome_counts s ip Outward _ (λ p. (ran, omega arith))
  execute_counts s f bit ip MovIab = copy_counts (address c.bx s.soup_size) (address c.ax s.soup_size) bit
  execute_counts s f bit ip Adr = search_outcome_counts s ip Outward _ (λ p. (ran, omega arith))
  execute_counts s f bit ip AdrB = search_outcome_counts s ip Backward _ (λ p. (ran, omega arith))
  execute_counts s f bit ip AdrF = search_outcome_counts s ip Forward _ (λ p. (ran, omega arith))
  execute_counts s f bit ip Mal = (ran, omega arith, mal_writes (mal_request s c.own.size c.cx))
  execute_counts s f bit ip Divide = (ran, omega arith, divide_writes (may_divide s c.daughter c.moved))
  execute_counts s f bit ip _ = (ran, omega arith, tt)

pub step_counts : (s : Settings) (draw : ℕ → ℕ) (i : ℕ) (c : Creature) → Always (Counts (c.ran + 1) (c.moved + 1) c) (step s draw i c)
unfolding step
step_counts s draw i c =
    λ v below. execute_counts (c.ran + 1) (c.moved + 1) (start_record s c) refl (omega arith) s (flaw s.flaw_rate draw i)
    (copy_bit s.copy_rate draw i) c.ip (op_of v)
