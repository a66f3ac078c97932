-- A step leaves ip in the soup and sp on the stack, and counts itself and at most one copy.
use Rattle.std.proofs.Common.{ℕ, ◌+◌, ◌%◌, ◌<◌, ◌≤◌, Bool, true, false, arith}
use Rattle.std.specs.Prelude.{Some, None, Option, ℤ, if◌then◌else◌, ◌||◌, nat_lt, length}
use Rattle.tierra_model.specs.declared.ops.Op.{Op}
use Rattle.tierra_model.specs.declared.ops.Op.TheVariants.{Nop0, Nop1, Or1, Shl, Zero, IfCz, SubAb, SubAc, IncA, IncB, DecC, IncC, PushAx, PushBx, PushCx}
use Rattle.tierra_model.specs.declared.ops.Op.TheVariants.{PushDx, PopAx, PopBx, PopCx, PopDx, Jmp, JmpB, Call, Ret, MovCd, MovAb, MovIab, Adr, AdrB, AdrF, Mal}
use Rattle.tierra_model.specs.declared.ops.Op.TheVariants.{Divide}
use Rattle.tierra_model.specs.declared.parameters.Settings.{Settings}
use Rattle.tierra_model.specs.declared.creatures.Creature.{Creature}
use Rattle.tierra_model.specs.declared.searching.Found.{Found}
use Rattle.tierra_model.specs.declared.searching.Found.TheVariants as found
use Rattle.tierra_model.specs.declared.searching.Way.{Way}
use Rattle.tierra_model.specs.declared.searching.Way.TheVariants.{Outward, Forward, Backward}
use Rattle.tierra_model.specs.Ring.{address}
use Rattle.tierra_model.specs.Look.{Look, Answer, LookAt, ◌>>=◌}
use Rattle.tierra_model.specs.Table.{op_of}
use Rattle.tierra_model.specs.Search.{search_for, search_from, read_template, try_each, found_at, candidates}
use Rattle.tierra_model.specs.Draw.{flaw, copy_bit}
use Rattle.tierra_model.specs.Blocks.{is_in, is_in_daughter}
use Rattle.tierra_model.specs.Step.{step, execute, copy, to_found, is_zero, Outcome}
use Rattle.tierra_model.proofs.Records.{Always, always-any, if_always, address_below}

-- the registers are in a soup of n cells, and at most m cells were copied and m instructions ran
abbrev pub InSoup : ℕ → ℕ → Creature → Type 0
InSoup n m c = (c.ip < n) × (c.sp < 10) × (c.moved ≤ m) × (c.ran ≤ m)

abbrev pub Steps : ℕ → ℕ → Outcome → Type 0
Steps n m o = InSoup n m o.0

-- ---- a place that is found is in the ring

abbrev FoundBelow : ℕ → Found → Type 0
FoundBelow n found.Short = Unit {0}
FoundBelow n found.NoMatch = Unit {0}
FoundBelow n (found.At p) = p < n

always-bind : {A B : Type 0} (P : A → Type 0) (Q : B → Type 0) (t : Look A) (f : A → Look B) → Always P t → ((a : A) → P a → Always Q (f a))
    → Always Q (t >>= f)
always-bind P Q (Answer a) f h k = k a h
always-bind P Q (LookAt p next) f h k = λ v below. always-bind P Q (next v) f (h v below) k

found_at_below : (n t : ℕ) (o : Option ℕ) → 0 < n → FoundBelow n (found_at n t o)
found_at_below n t None h = tt
found_at_below n t (Some p) h = omega arith

search_for_below : (n ip : ℕ) (way : Way) (limit min : ℕ) → 0 < n → Always (FoundBelow n) (search_for n ip way limit min)
unfolding search_for search_from
search_for_below n ip way limit min h =
    always-any (FoundBelow n) (read_template n 10 (ip + 1)) (search_from n ip way limit min) (λ vs.
    if_always (FoundBelow n) (nat_lt (length vs) min) _ _ tt
    (always-any (FoundBelow n) (try_each n vs (candidates n ip (length vs) way limit 1)) _ (λ o. found_at_below n (length vs) o h)))

found_steps : (n m : ℕ) (c : Creature) (go : ℕ → Creature) (f : Found) → FoundBelow n f → ((p : ℕ) → p < n → InSoup n m (go p)) → InSoup n m c
    → Always (Steps n m) (to_found c go f)
found_steps n m c go found.Short b h k = k
found_steps n m c go found.NoMatch b h k = k
found_steps n m c go (found.At p) b h k = h p b

searched : (n m ip : ℕ) (way : Way) (limit min : ℕ) (c : Creature) (go : ℕ → Creature) → 0 < n → ((p : ℕ) → p < n → InSoup n m (go p)) → InSoup n m c
    → Always (Steps n m) (search_for n ip way limit min >>= to_found c go)
searched n m ip way limit min c go z h k =
    always-bind (FoundBelow n) (Steps n m) (search_for n ip way limit min) (to_found c go) (search_for_below n ip way limit min z)
    (λ f b. found_steps n m c go f b h k)

-- ---- one line for each instruction

skip_below : (b : Bool) (p q n : ℕ) → p < n → q < n → (if b then p else q) < n
skip_below true p q n h k = h
skip_below false p q n h k = k

copied : (b : Bool) (k m : ℕ) → k ≤ m → (if b then k + 1 else k) ≤ m + 1
copied true k m h = omega arith
copied false k m h = omega arith

copy_steps : (n m : ℕ) (c : Creature) (from to : ℕ) (bit : Option ℕ) → (c.ip < n) × (c.sp < 10) × (c.moved ≤ m) → c.ran ≤ m + 1
    → Always (Steps n (m + 1)) (copy c from to bit)
copy_steps n m c from to bit h r =
    if_always (Steps n (m + 1)) (is_in c.own to || is_in_daughter c.daughter to) _ _
    (λ v below. (h.0, h.1, copied (is_in_daughter c.daughter to) c.moved m h.2, r)) (h.0, h.1, omega (arith, h.2), r)

execute_steps : (s : Settings) (f : ℤ) (bit : Option ℕ) (ip m : ℕ) (c : Creature) (op : Op) → (c.ip < s.soup_size) × (c.sp < 10) × (c.moved ≤ m)
    → (c.moved ≤ m + 1) × (c.ran ≤ m + 1)
    → Always (Steps s.soup_size (m + 1)) (execute s f bit ip c op)
execute_steps s f bit ip m c Nop0 h k = (h.0, h.1, k.0, k.1)
execute_steps s f bit ip m c Nop1 h k = (h.0, h.1, k.0, k.1)
execute_steps s f bit ip m c Or1 h k = (h.0, h.1, k.0, k.1)
execute_steps s f bit ip m c Shl h k = (h.0, h.1, k.0, k.1)
execute_steps s f bit ip m c Zero h k = (h.0, h.1, k.0, k.1)
execute_steps s f bit ip m c IfCz h k = (skip_below (is_zero c.cx) c.ip ((c.ip + 1) % s.soup_size) s.soup_size h.0 (omega (arith, s.soup)), h.1, k.0, k.1)
execute_steps s f bit ip m c SubAb h k = (h.0, h.1, k.0, k.1)
execute_steps s f bit ip m c SubAc h k = (h.0, h.1, k.0, k.1)
execute_steps s f bit ip m c IncA h k = (h.0, h.1, k.0, k.1)
execute_steps s f bit ip m c IncB h k = (h.0, h.1, k.0, k.1)
execute_steps s f bit ip m c DecC h k = (h.0, h.1, k.0, k.1)
execute_steps s f bit ip m c IncC h k = (h.0, h.1, k.0, k.1)
execute_steps s f bit ip m c PushAx h k = (h.0, omega arith, k.0, k.1)
execute_steps s f bit ip m c PushBx h k = (h.0, omega arith, k.0, k.1)
execute_steps s f bit ip m c PushCx h k = (h.0, omega arith, k.0, k.1)
execute_steps s f bit ip m c PushDx h k = (h.0, omega arith, k.0, k.1)
execute_steps s f bit ip m c PopAx h k = (h.0, omega arith, k.0, k.1)
execute_steps s f bit ip m c PopBx h k = (h.0, omega arith, k.0, k.1)
execute_steps s f bit ip m c PopCx h k = (h.0, omega arith, k.0, k.1)
execute_steps s f bit ip m c PopDx h k = (h.0, omega arith, k.0, k.1)
execute_steps s f bit ip m c Jmp h k = searched s.soup_size (m + 1) ip Outward s.search_limit s.min_template c _ (omega (arith, s.soup))
    (λ p b. (b, h.1, k.0, k.1)) (h.0, h.1, k.0, k.1)
execute_steps s f bit ip m c JmpB h k = searched s.soup_size (m + 1) ip Backward s.search_limit s.min_template c _ (omega (arith, s.soup))
    (λ p b. (b, h.1, k.0, k.1)) (h.0, h.1, k.0, k.1)
execute_steps s f bit ip m c Call h k = searched s.soup_size (m + 1) ip Outward s.search_limit s.min_template c _ (omega (arith, s.soup))
    (λ p b. (b, omega arith, k.0, k.1)) (h.0, h.1, k.0, k.1)
execute_steps s f bit ip m c Ret h k = (address_below _ s.soup_size (omega (arith, s.soup)), omega arith, k.0, k.1)
execute_steps s f bit ip m c MovCd h k = (h.0, h.1, k.0, k.1)
execute_steps s f bit ip m c MovAb h k = (h.0, h.1, k.0, k.1)
execute_steps s f bit ip m c MovIab h k = copy_steps s.soup_size m c (address c.bx s.soup_size) (address c.ax s.soup_size) bit h k.1
execute_steps s f bit ip m c Adr h k = searched s.soup_size (m + 1) ip Outward s.search_limit s.min_template c _ (omega (arith, s.soup))
    (λ p b. (h.0, h.1, k.0, k.1)) (h.0, h.1, k.0, k.1)
execute_steps s f bit ip m c AdrB h k = searched s.soup_size (m + 1) ip Backward s.search_limit s.min_template c _ (omega (arith, s.soup))
    (λ p b. (h.0, h.1, k.0, k.1)) (h.0, h.1, k.0, k.1)
execute_steps s f bit ip m c AdrF h k = searched s.soup_size (m + 1) ip Forward s.search_limit s.min_template c _ (omega (arith, s.soup))
    (λ p b. (h.0, h.1, k.0, k.1)) (h.0, h.1, k.0, k.1)
execute_steps s f bit ip m c Mal h k = (h.0, h.1, k.0, k.1)
execute_steps s f bit ip m c Divide h k = (h.0, h.1, k.0, k.1)

pub step_steps : (s : Settings) (draw : ℕ → ℕ) (i m : ℕ) (c : Creature) → InSoup s.soup_size m c → Always (Steps s.soup_size (m + 1)) (step s draw i c)
unfolding step
step_steps s draw i m c h = λ v below.
    execute_steps s (flaw s.flaw_rate draw i) (copy_bit s.copy_rate draw i) c.ip m (record c { ip = (c.ip + 1) % s.soup_size; flag = 0; ran = c.ran + 1 })
    (op_of v)
    (omega (arith, s.soup), h.1, h.2) (omega (arith, h.2), omega (arith, h.3))
