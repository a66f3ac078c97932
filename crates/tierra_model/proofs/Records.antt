-- A step keeps a creature's number, blocks, error count and genotype.
use Rattle.std.proofs.Common.{◌≡◌, ℕ, ◌+◌, ◌*◌, ◌%◌, ◌^◌, ◌<◌, ◌≤◌, Bool, true, false, cond, refl, ap, arith, min}
use Rattle.std.specs.Prelude.{Some, None, Option, IsSome, is_some, ℤ, pos, negsuc, if◌then◌else◌, ◌||◌, ◌&&◌, nat_le, slice_index}
use Rattle.tierra_model.specs.declared.limits.TheConstants.{MOST_SIZE}
use Rattle.tierra_model.specs.declared.ops.Op.{Op}
use Rattle.tierra_model.specs.declared.ops.Op.TheVariants.{Nop0, Nop1, Or1, Shl, Zero, IfCz, SubAb, SubAc, IncA, IncB, DecC, IncC, PushAx, PushBx, PushCx}
use Rattle.tierra_model.specs.declared.ops.Op.TheVariants.{PushDx, PopAx, PopBx, PopCx, PopDx, Jmp, JmpB, Call, Ret, MovCd, MovAb, MovIab, Adr, AdrB, AdrF, Mal}
use Rattle.tierra_model.specs.declared.ops.Op.TheVariants.{Divide}
use Rattle.tierra_model.specs.declared.parameters.Settings.{Settings}
use Rattle.tierra_model.specs.declared.creatures.Creature.{Creature}
use Rattle.tierra_model.specs.declared.searching.Found.{Found}
use Rattle.tierra_model.specs.declared.searching.Found.TheVariants as found
use Rattle.tierra_model.specs.declared.searching.Way.TheVariants.{Outward, Forward, Backward}
use Rattle.tierra_model.specs.declared.events.Act.{Act}
use Rattle.tierra_model.specs.declared.events.Act.TheVariants as act
use Rattle.tierra_model.specs.Ring.{address}
use Rattle.tierra_model.specs.Look.{Look, Answer, LookAt, ◌>>=◌}
use Rattle.tierra_model.specs.Table.{op_of}
use Rattle.tierra_model.specs.Search.{search_for}
use Rattle.tierra_model.specs.Draw.{is_due, flaw, copy_bit}
use Rattle.tierra_model.specs.Quantum.{walk, world_machine}
use Rattle.tierra_model.specs.Blocks.{is_in, is_in_daughter}
use Rattle.tierra_model.specs.Step.{mal_act, mal_request, may_divide, step, execute, copy, to_found, Outcome, flip_bit}
use Rattle.tierra_model.specs.World.{World}
use Rattle.tierra_model.specs.declared.creatures.Block.{Block}
use Rattle.std.proofs.lemmas.Nat.{xor_lt, pow_below}
use Rattle.std.proofs.lemmas.Bool.{and_parts, leb-true}
use Rattle.tierra_model.proofs.Shares.{Shares}

-- P holds of each answer that the looks may lead to, where each cell holds a number below 32
abbrev pub Always : {A : Type 0} → (A → Type 0) → Look A → Type 0
Always P (Answer a) = P a
Always P (LookAt p next) = (v : ℕ) → v < 32 → Always P (next v)

pub always-any : {A B : Type 0} (P : B → Type 0) (t : Look A) (f : A → Look B) → ((a : A) → Always P (f a)) → Always P (t >>= f)
always-any P (Answer a) f h = h a
always-any P (LookAt p next) f h = λ v below. always-any P (next v) f h

pub always-walk : {A : Type 0} (P : A → Type 0) (s : Settings) (t : Look A) (w : World) → ((p : ℕ) → slice_index w.soup p < 32)
    → Always P t → P (walk world_machine s t w).1
always-walk P s (Answer a) w b h = h
always-walk P s (LookAt p next) w b h = always-walk P s (next (slice_index w.soup p)) w b (h (slice_index w.soup p) (b p))

-- an act that the creature can do
abbrev pub CanDo : Settings → Creature → Act → Type 0
CanDo s d act.Plain = Unit {0}
CanDo s d (act.Wrote at value) = (at < s.soup_size) × (value < 32)
CanDo s d act.Erred = Unit {0}
CanDo s d (act.Mal size) = (1 ≤ size) × (size ≤ MOST_SIZE)
CanDo s d act.Divide = IsSome d.daughter × (1 ≤ d.ran)

abbrev pub Keeps : Settings → Creature → Outcome → Type 0
Keeps s c o = Shares c o.0 × CanDo s o.0 o.1

found_keeps : (s : Settings) (d c : Creature) (go : ℕ → Creature) (f : Found) → ((p : ℕ) → Shares d (go p)) → Shares d c → Always (Keeps s d) (to_found c go f)
found_keeps s d c go found.Short h k = (k, tt)
found_keeps s d c go found.NoMatch h k = (k, tt)
found_keeps s d c go (found.At p) h k = (h p, tt)

pub if_always : {A : Type 0} (P : A → Type 0) (b : Bool) (t u : Look A) → Always P t → Always P u → Always P (cond b t u)
if_always P true t u h k = h
if_always P false t u h k = k

-- a bit below five flipped
abbrev pub BitOf : Option ℕ → Type 0
BitOf None = Unit {0}
BitOf (Some bit) = bit < 5

pub flipped_below : (v : ℕ) (bit : Option ℕ) → v < 32 → BitOf bit → flip_bit v bit < 32
flipped_below v None h b = h
flipped_below v (Some bit) h b =
    let two : 2 ^ bit < 2 ^ 5 = pow_below bit 5 b in
    xor_lt 5 v (2 ^ bit) (omega (arith, h)) two

copy_bit_of : (rate : ℕ) (draw : ℕ → ℕ) (i : ℕ) → BitOf (copy_bit rate draw i)
copy_bit_of rate draw i = go (is_due rate draw (5 + 4 * i))
  where
    go : (b : Bool) → BitOf (let o : Option ℕ = elim b [ true ↦ Some (draw (6 + 4 * i) % 5) | false ↦ None ] in o)
    go true = omega arith
    go false = tt

pub address_below : (v : ℤ) (n : ℕ) → 0 < n → address v n < n
unfolding address
address_below (pos k) n h = omega arith
address_below (negsuc k) n h = omega arith

copy_keeps : (s : Settings) (d c : Creature) (from to : ℕ) (bit : Option ℕ) → BitOf bit → to < s.soup_size → Shares d c
    → Always (Keeps s d) (copy c from to bit)
copy_keeps s d c from to bit b h f =
    if_always (Keeps s d) (is_in c.own to || is_in_daughter c.daughter to) _ _
    (λ v below. (
      record {
        id = f.id;
        own = f.own;
        daughter = f.daughter;
        errors = f.errors;
        genotype = f.genotype;
        bred = f.bred;
      },
      (h, flipped_below v bit below b),
    )) (f, tt)

mal_can : (s : Settings) (d : Creature) (size : ℕ) (z : ℤ) → CanDo s d (mal_act (mal_request s size z))
mal_can s d size (negsuc k) = tt
mal_can s d size (pos k) = go (nat_le s.min_cell k && nat_le k (min s.max_cell (s.mal_mult * size))) refl
  where
    go : (b : Bool) → (nat_le s.min_cell k && nat_le k (min s.max_cell (s.mal_mult * size))) ≡ b → CanDo s d (mal_act (cond b (Some k) None))
    go true e = let h = and_parts (nat_le s.min_cell k) (nat_le k (min s.max_cell (s.mal_mult * size))) e in
        (omega (arith, leb-true s.min_cell k h.0, s.cells), omega (arith, leb-true k (min s.max_cell (s.mal_mult * size)) h.1, s.cells))
    go false e = tt

divide_can : (s : Settings) (c : Creature) → 1 ≤ c.ran → CanDo s c (if may_divide s c.daughter c.moved then act.Divide else act.Erred)
divide_can s c h = go c.daughter refl
  where
    pick : (b : Block) (m : Bool) → c.daughter ≡ Some b → CanDo s c (if m then act.Divide else act.Erred)
    pick b true e = (ap (λ (o : Option Block). is_some o) e, h)
    pick b false e = tt

    go : (d : Option Block) → c.daughter ≡ d → CanDo s c (if may_divide s d c.moved then act.Divide else act.Erred)
    go None e = tt
    go (Some b) e = pick b (may_divide s (Some b) c.moved) e

execute_keeps : (s : Settings) (f : ℤ) (bit : Option ℕ) (ip : ℕ) (d c : Creature) (op : Op) → BitOf bit → Shares d c → 1 ≤ c.ran
    → Always (Keeps s d) (execute s f bit ip c op)
execute_keeps s f bit ip d c Nop0 b k h = (k, tt)
execute_keeps s f bit ip d c Nop1 b k h = (k, tt)
execute_keeps s f bit ip d c Or1 b k h = (record { id = k.id; own = k.own; daughter = k.daughter; errors = k.errors; genotype = k.genotype; bred = k.bred }, tt)
execute_keeps s f bit ip d c Shl b k h = (record { id = k.id; own = k.own; daughter = k.daughter; errors = k.errors; genotype = k.genotype; bred = k.bred }, tt)
execute_keeps s f bit ip d c Zero b k h =
    (record { id = k.id; own = k.own; daughter = k.daughter; errors = k.errors; genotype = k.genotype; bred = k.bred }, tt)
execute_keeps s f bit ip d c IfCz b k h =
    (record { id = k.id; own = k.own; daughter = k.daughter; errors = k.errors; genotype = k.genotype; bred = k.bred }, tt)
execute_keeps s f bit ip d c SubAb b k h =
    (record { id = k.id; own = k.own; daughter = k.daughter; errors = k.errors; genotype = k.genotype; bred = k.bred }, tt)
execute_keeps s f bit ip d c SubAc b k h =
    (record { id = k.id; own = k.own; daughter = k.daughter; errors = k.errors; genotype = k.genotype; bred = k.bred }, tt)
execute_keeps s f bit ip d c IncA b k h =
    (record { id = k.id; own = k.own; daughter = k.daughter; errors = k.errors; genotype = k.genotype; bred = k.bred }, tt)
execute_keeps s f bit ip d c IncB b k h =
    (record { id = k.id; own = k.own; daughter = k.daughter; errors = k.errors; genotype = k.genotype; bred = k.bred }, tt)
execute_keeps s f bit ip d c DecC b k h =
    (record { id = k.id; own = k.own; daughter = k.daughter; errors = k.errors; genotype = k.genotype; bred = k.bred }, tt)
execute_keeps s f bit ip d c IncC b k h =
    (record { id = k.id; own = k.own; daughter = k.daughter; errors = k.errors; genotype = k.genotype; bred = k.bred }, tt)
execute_keeps s f bit ip d c PushAx b k h =
    (record { id = k.id; own = k.own; daughter = k.daughter; errors = k.errors; genotype = k.genotype; bred = k.bred }, tt)
execute_keeps s f bit ip d c PushBx b k h =
    (record { id = k.id; own = k.own; daughter = k.daughter; errors = k.errors; genotype = k.genotype; bred = k.bred }, tt)
execute_keeps s f bit ip d c PushCx b k h =
    (record { id = k.id; own = k.own; daughter = k.daughter; errors = k.errors; genotype = k.genotype; bred = k.bred }, tt)
execute_keeps s f bit ip d c PushDx b k h =
    (record { id = k.id; own = k.own; daughter = k.daughter; errors = k.errors; genotype = k.genotype; bred = k.bred }, tt)
execute_keeps s f bit ip d c PopAx b k h =
    (record { id = k.id; own = k.own; daughter = k.daughter; errors = k.errors; genotype = k.genotype; bred = k.bred }, tt)
execute_keeps s f bit ip d c PopBx b k h =
    (record { id = k.id; own = k.own; daughter = k.daughter; errors = k.errors; genotype = k.genotype; bred = k.bred }, tt)
execute_keeps s f bit ip d c PopCx b k h =
    (record { id = k.id; own = k.own; daughter = k.daughter; errors = k.errors; genotype = k.genotype; bred = k.bred }, tt)
execute_keeps s f bit ip d c PopDx b k h =
    (record { id = k.id; own = k.own; daughter = k.daughter; errors = k.errors; genotype = k.genotype; bred = k.bred }, tt)
execute_keeps s f bit ip d c Jmp b k h =
    always-any (Keeps s d) (search_for s.soup_size ip Outward s.search_limit s.min_template) _
    (λ found. found_keeps s d c _ found (λ p. record {
      id = k.id;
      own = k.own;
      daughter = k.daughter;
      errors = k.errors;
      genotype = k.genotype;
      bred = k.bred;
    }) k)
execute_keeps s f bit ip d c JmpB b k h =
    always-any (Keeps s d) (search_for s.soup_size ip Backward s.search_limit s.min_template) _
    (λ found. found_keeps s d c _ found (λ p. record {
      id = k.id;
      own = k.own;
      daughter = k.daughter;
      errors = k.errors;
      genotype = k.genotype;
      bred = k.bred;
    }) k)
execute_keeps s f bit ip d c Call b k h =
    always-any (Keeps s d) (search_for s.soup_size ip Outward s.search_limit s.min_template) _
    (λ found. found_keeps s d c _ found (λ p. record {
      id = k.id;
      own = k.own;
      daughter = k.daughter;
      errors = k.errors;
      genotype = k.genotype;
      bred = k.bred;
    }) k)
execute_keeps s f bit ip d c Ret b k h = (record { id = k.id; own = k.own; daughter = k.daughter; errors = k.errors; genotype = k.genotype; bred = k.bred }, tt)
execute_keeps s f bit ip d c MovCd b k h =
    (record { id = k.id; own = k.own; daughter = k.daughter; errors = k.errors; genotype = k.genotype; bred = k.bred }, tt)
execute_keeps s f bit ip d c MovAb b k h =
    (record { id = k.id; own = k.own; daughter = k.daughter; errors = k.errors; genotype = k.genotype; bred = k.bred }, tt)
execute_keeps s f bit ip d c MovIab b k h = copy_keeps s d c (address c.bx s.soup_size)
    (address c.ax s.soup_size) bit b (address_below c.ax s.soup_size (omega (arith, s.soup))) k
execute_keeps s f bit ip d c Adr b k h =
    always-any (Keeps s d) (search_for s.soup_size ip Outward s.search_limit s.min_template) _
    (λ found. found_keeps s d c _ found (λ p. record {
      id = k.id;
      own = k.own;
      daughter = k.daughter;
      errors = k.errors;
      genotype = k.genotype;
      bred = k.bred;
    }) k)
execute_keeps s f bit ip d c AdrB b k h =
    always-any (Keeps s d) (search_for s.soup_size ip Backward s.search_limit s.min_template) _
    (λ found. found_keeps s d c _ found (λ p. record {
      id = k.id;
      own = k.own;
      daughter = k.daughter;
      errors = k.errors;
      genotype = k.genotype;
      bred = k.bred;
    }) k)
execute_keeps s f bit ip d c AdrF b k h =
    always-any (Keeps s d) (search_for s.soup_size ip Forward s.search_limit s.min_template) _
    (λ found. found_keeps s d c _ found (λ p. record {
      id = k.id;
      own = k.own;
      daughter = k.daughter;
      errors = k.errors;
      genotype = k.genotype;
      bred = k.bred;
    }) k)
execute_keeps s f bit ip d c Mal b k h = (k, mal_can s c c.own.size c.cx)
execute_keeps s f bit ip d c Divide b k h = (k, divide_can s c h)

pub step_keeps : (s : Settings) (draw : ℕ → ℕ) (i : ℕ) (d c : Creature) → Shares d c → Always (Keeps s d) (step s draw i c)
unfolding step
step_keeps s draw i d c k = λ v below.
    execute_keeps s (flaw s.flaw_rate draw i) (copy_bit s.copy_rate draw i) c.ip d (record c { ip = (c.ip + 1) % s.soup_size; flag = 0; ran = c.ran + 1 })
    (op_of v) (copy_bit_of s.copy_rate draw i)
    (record { id = k.id; own = k.own; daughter = k.daughter; errors = k.errors; genotype = k.genotype; bred = k.bred }) (omega arith)
