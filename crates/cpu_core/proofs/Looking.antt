-- The cells that a step looks at are in the soup, and looking changes nothing.
use Rattle.std.proofs.Common.{◌≡◌, ℕ, zero, suc, ◌+◌, ◌<◌, Bool, true, false, cond, List, [], ◌∷◌, refl, sym, ◌∙◌, subst, arith, length}
use Rattle.std.specs.Prelude.{Option, ℤ, nat_lt, ◌==◌, ◌||◌}
use Rattle.tierra_model.specs.declared.creatures.Creature.{Creature}
use Rattle.tierra_model.specs.declared.ops.Op.{Op}
use Rattle.tierra_model.specs.declared.ops.Op.TheVariants.{Adr, AdrB, AdrF, Call, Jmp, JmpB, MovIab}
use Rattle.tierra_model.specs.declared.parameters.Settings.{Settings}
use Rattle.tierra_model.specs.declared.searching.Found.{Found}
use Rattle.tierra_model.specs.declared.searching.Found.TheVariants as found
use Rattle.tierra_model.specs.declared.searching.Way.{Way}
use Rattle.tierra_model.specs.declared.searching.Way.TheVariants.{Backward, Forward, Outward}
use Rattle.tierra_model.specs.Blocks.{is_in, is_in_daughter}
use Rattle.tierra_model.specs.Draw.{copy_bit, flaw}
use Rattle.tierra_model.specs.Look.{Answer, Look, LookAt, pass, ◌>>=◌}
use Rattle.tierra_model.specs.Ring.{address}
use Rattle.tierra_model.specs.Search.{candidates, compare, read_template, search_for, search_from, try_each}
use Rattle.tierra_model.specs.Step.{execute, step, to_found}
use Rattle.tierra_model.specs.Table.{op_of}
use Rattle.tierra_model.proofs.Records.{Always, address_below}
use Rattle.cpu_core.specs.Executing.{start_record}
use Rattle.cpu_core.specs.Searching.{search_by, search_outcome}

-- ---- looks in a soup of n cells

abbrev pub LooksBelow : {A : Type 0} → ℕ → Look A → Type 0
LooksBelow n (Answer a) = Unit {0}
LooksBelow n (LookAt p next) = (p < n) × ((v : ℕ) → LooksBelow n (next v))

below-bind : {A B : Type 0} (n : ℕ) (t : Look A) (f : A → Look B) → LooksBelow n t → ((a : A) → LooksBelow n (f a)) → LooksBelow n (t >>= f)
below-bind n (Answer a) f h k = k a
below-bind n (LookAt p next) f h k = (h.0, λ v. below-bind n (next v) f (h.1 v) k)

below_either : {A : Type 0} (n : ℕ) (b : Bool) (t u : Look A) → LooksBelow n t → LooksBelow n u → LooksBelow n (cond b t u)
below_either n true t u h k = h
below_either n false t u h k = k

read_template_below : (n k p : ℕ) → 0 < n → LooksBelow n (read_template n k p)
unfolding read_template
read_template_below n zero p h = tt
read_template_below n (suc k) p h =
    (omega arith, λ v. below_either n (nat_lt v 2) _ _ (below-bind n (read_template n k (p + 1)) _ (read_template_below n k (p + 1) h) (λ vs. tt)) tt)

compare_below : (n : ℕ) (vs : List ℕ) (p : ℕ) → 0 < n → LooksBelow n (compare n vs p)
unfolding compare
compare_below n [] p h = tt
compare_below n (v ∷ vs) p h = (omega arith, λ u. below_either n (v + u == 1) _ _ (compare_below n vs (p + 1) h) tt)

try_each_below : (n : ℕ) (vs ps : List ℕ) → 0 < n → LooksBelow n (try_each n vs ps)
unfolding try_each
try_each_below n vs [] h = tt
try_each_below n vs (p ∷ ps) h = below-bind n (compare n vs p) _ (compare_below n vs p h) (λ b. below_either n b _ _ tt (try_each_below n vs ps h))

search_for_below : (n ip : ℕ) (way : Way) (limit min : ℕ) → 0 < n → LooksBelow n (search_for n ip way limit min)
unfolding search_for search_from
search_for_below n ip way limit min h =
    below-bind n (read_template n 10 (ip + 1)) _ (read_template_below n 10 (ip + 1) h)
    (λ vs. below_either n (nat_lt (length vs) min) _ _ tt
    (below-bind n (try_each n vs (candidates n ip (length vs) way limit 1)) _ (try_each_below n vs (candidates n ip (length vs) way limit 1) h) (λ p. tt)))

found_below : (n : ℕ) (c : Creature) (go : ℕ → Creature) (f : Found) → LooksBelow n (to_found c go f)
found_below n c go found.Short = tt
found_below n c go found.NoMatch = tt
found_below n c go (found.At p) = tt

search_outcome_below : (s : Settings) (ip : ℕ) (way : Way) (c : Creature) (go : ℕ → Creature) → LooksBelow s.soup_size (search_outcome s ip way c go)
search_outcome_below s ip way c go =
    below-bind s.soup_size (search_by s ip way) (to_found c go) (search_for_below s.soup_size ip way s.search_limit s.min_template (omega (arith, s.soup)))
    (found_below s.soup_size c go)

execute_below : (s : Settings) (f : ℤ) (bit : Option ℕ) (ip : ℕ) (c : Creature) (op : Op) → LooksBelow s.soup_size (execute s f bit ip c op)
execute_below s f bit ip c Jmp = search_outcome_below s ip Outward c _
execute_below s f bit ip c JmpB = search_outcome_below s ip Backward c _
execute_below s f bit ip c Call = search_outcome_below s ip Outward c _
execute_below s f bit ip c MovIab =
    below_either s.soup_size (is_in c.own (address c.ax s.soup_size) || is_in_daughter c.daughter (address c.ax s.soup_size)) _ _
    (address_below c.bx s.soup_size (omega (arith, s.soup)), λ v. tt) tt
execute_below s f bit ip c Adr = search_outcome_below s ip Outward c _
execute_below s f bit ip c AdrB = search_outcome_below s ip Backward c _
execute_below s f bit ip c AdrF = search_outcome_below s ip Forward c _
execute_below s f bit ip c _ = tt

pub step_below : (s : Settings) (draw : ℕ → ℕ) (i : ℕ) (c : Creature) → c.ip < s.soup_size → LooksBelow s.soup_size (step s draw i c)
unfolding step
step_below s draw i c h = (h, λ v. execute_below s (flaw s.flaw_rate draw i) (copy_bit s.copy_rate draw i) c.ip (start_record s c) (op_of v))

-- ---- in a view

module _ {S : Type 0} (cells : S → ℕ → ℕ) (looked : S → ℕ → S) where
  -- what a look keeps, looks keep
  pub pass-keeps : {A X : Type 0} (f : S → X) → ((v : S) (p : ℕ) → f (looked v p) ≡ f v) → (t : Look A) (v : S) → f (pass cells looked t v).0 ≡ f v
  pass-keeps f keeps (Answer a) v = refl
  pass-keeps f keeps (LookAt p next) v = pass-keeps f keeps (next (cells v p)) (looked v p) ∙ keeps v p

  -- what holds of each answer, holds of the one that is given
  pub pass-always : {A : Type 0} (P : A → Type 0) (n : ℕ) (t : Look A) (v : S) → ((v : S) (p q : ℕ) → cells (looked v p) q ≡ cells v q)
      → ((p : ℕ) → p < n → cells v p < 32) → LooksBelow n t → Always P t → P (pass cells looked t v).1
  pass-always P n (Answer a) v keeps codes h k = k
  pass-always P n (LookAt p next) v keeps codes h k =
      pass-always P n (next (cells v p)) (looked v p) keeps (λ q below. subst (λ x. x < 32) (sym (keeps v p q)) (codes q below)) (h.1 (cells v p))
      (k (cells v p) (codes p h.0))
