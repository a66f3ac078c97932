-- An instruction leaves the words of its creature's processor in the ranges of their types, and counts itself and at
-- most one copy.
use Rattle.std.proofs.Common.{◌≡◌, ℕ, zero, suc, ◌+◌, ◌-◌, ◌*◌, ◌%◌, ◌^◌, ◌<◌, ◌≤◌, Bool, true, false, cond, List, [], ◌∷◌, refl, sym, ◌∙◌, subst, arith}
use Rattle.std.proofs.Common.{FitsSigned, length, length-set}
use Rattle.std.specs.Int.{cast_signed, cast_unsigned, w32}
use Rattle.std.specs.Prelude.{All, Option, ℤ, pos, negsuc, bit_xor, if◌then◌else◌, slice_index_or, slice_set, unsigned_abs, ◌+ℤ◌, ◌||◌, ◌==◌}
use Rattle.std.proofs.Math.Facts.{Fits-of_lt, Fits-of_z, sfits_to_z}
use Rattle.std.proofs.lemmas.Int.{fits_signed_from_abs}
use Rattle.std.proofs.lemmas.List.Elements.{All-head, All-set, All-tail}
use Rattle.std.proofs.lemmas.Nat.{xor_lt}
use Rattle.tierra_model.specs.declared.creatures.Creature.{Creature}
use Rattle.tierra_model.specs.declared.ops.Op.{Op}
use Rattle.tierra_model.specs.declared.ops.Op.TheVariants.{Nop0, Nop1, Or1, Shl, Zero, IfCz, SubAb, SubAc, IncA, IncB, DecC, IncC, PushAx, PushBx, PushCx}
use Rattle.tierra_model.specs.declared.ops.Op.TheVariants.{PushDx, PopAx, PopBx, PopCx, PopDx, Jmp, JmpB, Call, Ret, MovCd, MovAb, MovIab, Adr, AdrB, AdrF, Mal}
use Rattle.tierra_model.specs.declared.ops.Op.TheVariants.{Divide}
use Rattle.tierra_model.specs.declared.parameters.Settings.{Settings}
use Rattle.tierra_model.specs.declared.searching.Found.{Found}
use Rattle.tierra_model.specs.declared.searching.Found.TheVariants as found
use Rattle.tierra_model.specs.declared.searching.Way.{Way}
use Rattle.tierra_model.specs.declared.searching.Way.TheVariants.{Outward, Forward, Backward}
use Rattle.tierra_model.specs.Blocks.{is_in, is_in_daughter}
use Rattle.tierra_model.specs.Draw.{copy_bit, flaw, is_due}
use Rattle.tierra_model.specs.Look.{Answer, Look, LookAt, answer, ◌>>=◌}
use Rattle.tierra_model.specs.Ring.{address, minus, plus, times, xor}
use Rattle.tierra_model.specs.Search.{search_for}
use Rattle.tierra_model.specs.Step.{Outcome, copy, execute, push, step, to_found}
use Rattle.tierra_model.specs.Table.{op_of}

-- ---- words

abbrev pub IsWord : ℤ → Type 0
IsWord v = FitsSigned w32 v

bits_fit : (n : ℕ) → n < 2 ^ 32 → IsWord (cast_signed w32 n)
bits_fit n h = sfits_to_z (Fits-of_lt {w = w32} h)

wrapped_fits : (n : ℕ) → IsWord (cast_signed w32 (n % 2 ^ 32))
wrapped_fits n = bits_fit (n % 2 ^ 32) (omega arith)

plus_fits : (x y : ℤ) → IsWord (plus x y)
plus_fits x y = wrapped_fits (cast_unsigned w32 x + cast_unsigned w32 y)

minus_fits : (x y : ℤ) → IsWord (minus x y)
minus_fits x y = wrapped_fits (cast_unsigned w32 x + (2 ^ 32 - cast_unsigned w32 y))

times_fits : (x y : ℤ) → IsWord (times x y)
times_fits x y = wrapped_fits (cast_unsigned w32 x * cast_unsigned w32 y)

bits_of : (v : ℤ) → IsWord v → cast_unsigned w32 v < 2 ^ 32
bits_of v h = (Fits-of_z h).fits

xor_fits : (x y : ℤ) → IsWord x → IsWord y → IsWord (xor x y)
xor_fits x y h k =
    bits_fit (bit_xor (cast_unsigned w32 x) (cast_unsigned w32 y))
    (xor_lt 32 (cast_unsigned w32 x) (cast_unsigned w32 y) (bits_of x h) (bits_of y k))

pub place_fits : (n : ℕ) → n < 2 ^ 31 → IsWord (pos n)
place_fits n h = fits_signed_from_abs w32 (pos n) h

top_fits : (xs : List ℤ) (i : ℕ) → All IsWord xs → IsWord (slice_index_or xs i (pos 0))
top_fits [] i h = place_fits 0 (omega arith)
top_fits (x ∷ xs) zero h = All-head IsWord x xs h
top_fits (x ∷ xs) (suc i) h = top_fits xs i (All-tail IsWord x xs h)

-- ---- a creature's words and counts

-- the words of a processor are in the ranges of their types
pub record Words (a b c d : ℤ) (words : List ℤ) (flag : ℕ) : Type 0 where
  pub ax : IsWord a
  pub bx : IsWord b
  pub cx : IsWord c
  pub dx : IsWord d
  pub ten : length words ≡ 10
  pub stack : All IsWord words
  pub byte : flag < 2 ^ 8

abbrev pub WordsOf : Creature → Type 0
WordsOf c = Words c.ax c.bx c.cx c.dx c.stack c.flag

-- they are in their ranges, and the creature copied and ran at most m
abbrev pub Counted : ℕ → Creature → Type 0
Counted m c = WordsOf c × (c.moved ≤ m) × (c.ran ≤ m)

abbrev Within : ℕ → Outcome → Type 0
Within m o = Counted m o.0

module _ {a b c d : ℤ} {words : List ℤ} {flag : ℕ} (h : Words a b c d words flag) where
  pub with_ax : (v : ℤ) → IsWord v → Words v b c d words flag
  with_ax v k = record { ax = k; bx = h.bx; cx = h.cx; dx = h.dx; ten = h.ten; stack = h.stack; byte = h.byte }

  with_bx : (v : ℤ) → IsWord v → Words a v c d words flag
  with_bx v k = record { ax = h.ax; bx = k; cx = h.cx; dx = h.dx; ten = h.ten; stack = h.stack; byte = h.byte }

  with_cx : (v : ℤ) → IsWord v → Words a b v d words flag
  with_cx v k = record { ax = h.ax; bx = h.bx; cx = k; dx = h.dx; ten = h.ten; stack = h.stack; byte = h.byte }

  with_dx : (v : ℤ) → IsWord v → Words a b c v words flag
  with_dx v k = record { ax = h.ax; bx = h.bx; cx = h.cx; dx = k; ten = h.ten; stack = h.stack; byte = h.byte }

  with_word : (i : ℕ) (v : ℤ) → IsWord v → Words a b c d (slice_set words i v) flag
  with_word i v k = record {
    ax = h.ax;
    bx = h.bx;
    cx = h.cx;
    dx = h.dx;
    ten = length-set words i v ∙ h.ten;
    stack = All-set IsWord words i v k h.stack;
    byte = h.byte;
  }

  pub with_flag : (n : ℕ) → n < 2 ^ 8 → Words a b c d words n
  with_flag n k = record { ax = h.ax; bx = h.bx; cx = h.cx; dx = h.dx; ten = h.ten; stack = h.stack; byte = k }

-- ---- answers

answer-bind : {A B : Type 0} (t : Look A) (f : A → Look B) (cells : ℕ → ℕ) → answer (t >>= f) cells ≡ answer (f (answer t cells)) cells
answer-bind (Answer a) f cells = refl
answer-bind (LookAt p next) f cells = answer-bind (next (cells p)) f cells

found_within : (m : ℕ) (c : Creature) (go : ℕ → Creature) (f : Found) (cells : ℕ → ℕ) → ((p : ℕ) → Counted m (go p)) → Counted m c
    → Within m (answer (to_found c go f) cells)
found_within m c go found.Short cells h k = k
found_within m c go found.NoMatch cells h k = k
found_within m c go (found.At p) cells h k = h p

searched : (m : ℕ) (t : Look Found) (c : Creature) (go : ℕ → Creature) (cells : ℕ → ℕ) → ((p : ℕ) → Counted m (go p)) → Counted m c
    → Within m (answer (t >>= to_found c go) cells)
searched m t c go cells h k = subst (Within m) (sym (answer-bind t (to_found c go) cells)) (found_within m c go (answer t cells) cells h k)

if_within : (m : ℕ) (b : Bool) (t u : Look Outcome) (cells : ℕ → ℕ) → Within m (answer t cells) → Within m (answer u cells)
    → Within m (answer (cond b t u) cells)
if_within m true t u cells h k = h
if_within m false t u cells h k = k

copied : (b : Bool) (k m : ℕ) → k ≤ m → (if b then k + 1 else k) ≤ m + 1
copied true k m h = omega arith
copied false k m h = omega arith

-- ---- one line for each instruction

module _ (s : Settings) (f : ℤ) (bit : Option ℕ) (ip m : ℕ) (c : Creature) (w : WordsOf c) (few : c.moved ≤ m) (ran : c.ran ≤ m + 1)
    (inside : c.ip < 2 ^ 31) (flawed : IsWord (pos 1 +ℤ f)) (cells : ℕ → ℕ) where
  most : c.moved ≤ m + 1
  most = omega (arith, few)

  top : IsWord (slice_index_or c.stack c.sp (pos 0))
  top = top_fits c.stack c.sp w.stack

  abbrev top_place : ℕ
  top_place = (c.sp + 1) % 10

  copy_within : (from to : ℕ) → Within (m + 1) (answer (copy c from to bit) cells)
  copy_within from to =
      if_within (m + 1) (is_in c.own to || is_in_daughter c.daughter to) _ _ cells
      (w, copied (is_in_daughter c.daughter to) c.moved m few, ran) (w, most, ran)

  abbrev look : Way → Look Found
  look way = search_for s.soup_size ip way s.search_limit s.min_template

  jumps : (way : Way) → Within (m + 1) (answer (look way >>= to_found c (λ p. record c { ip = p })) cells)
  jumps way = searched (m + 1) (look way) c (λ p. record c { ip = p }) cells (λ p. (w, most, ran)) (w, most, ran)

  addresses : (way : Way) → Within (m + 1) (answer (look way >>= to_found c (λ p. record c { ax = plus (pos p) f })) cells)
  addresses way =
      searched (m + 1) (look way) c (λ p. record c { ax = plus (pos p) f }) cells
      (λ p. (with_ax w _ (plus_fits (pos p) f), most, ran)) (w, most, ran)

  execute_within : (op : Op) → Within (m + 1) (answer (execute s f bit ip c op) cells)
  execute_within Nop0 = (w, most, ran)
  execute_within Nop1 = (w, most, ran)
  execute_within Or1 = (with_cx w _ (xor_fits c.cx (pos 1 +ℤ f) w.cx flawed), most, ran)
  execute_within Shl = (with_cx w _ (times_fits c.cx (pos (2 ^ unsigned_abs (pos 1 +ℤ f)))), most, ran)
  execute_within Zero = (with_cx w _ (plus_fits (pos 0) f), most, ran)
  execute_within IfCz = (w, most, ran)
  execute_within SubAb = (with_cx w _ (plus_fits (minus c.ax c.bx) f), most, ran)
  execute_within SubAc = (with_ax w _ (plus_fits (minus c.ax c.cx) f), most, ran)
  execute_within IncA = (with_ax w _ (plus_fits (plus c.ax (pos 1)) f), most, ran)
  execute_within IncB = (with_bx w _ (plus_fits (plus c.bx (pos 1)) f), most, ran)
  execute_within DecC = (with_cx w _ (plus_fits (minus c.cx (pos 1)) f), most, ran)
  execute_within IncC = (with_cx w _ (plus_fits (plus c.cx (pos 1)) f), most, ran)
  execute_within PushAx = (with_word w top_place c.ax w.ax, most, ran)
  execute_within PushBx = (with_word w top_place c.bx w.bx, most, ran)
  execute_within PushCx = (with_word w top_place c.cx w.cx, most, ran)
  execute_within PushDx = (with_word w top_place c.dx w.dx, most, ran)
  execute_within PopAx = (with_ax w _ top, most, ran)
  execute_within PopBx = (with_bx w _ top, most, ran)
  execute_within PopCx = (with_cx w _ top, most, ran)
  execute_within PopDx = (with_dx w _ top, most, ran)
  execute_within Jmp = jumps Outward
  execute_within JmpB = jumps Backward
  execute_within Call =
      searched (m + 1) (look Outward) c (λ p. record (push c (pos c.ip)) { ip = p }) cells
      (λ p. (with_word w top_place (pos c.ip) (place_fits c.ip inside), most, ran)) (w, most, ran)
  execute_within Ret = (w, most, ran)
  execute_within MovCd = (with_dx w _ (plus_fits c.cx f), most, ran)
  execute_within MovAb = (with_bx w _ (plus_fits c.ax f), most, ran)
  execute_within MovIab = copy_within (address c.bx s.soup_size) (address c.ax s.soup_size)
  execute_within Adr = addresses Outward
  execute_within AdrB = addresses Backward
  execute_within AdrF = addresses Forward
  execute_within Mal = (w, most, ran)
  execute_within Divide = (w, most, ran)

flaw_fits : (rate : ℕ) (draw : ℕ → ℕ) (i : ℕ) → IsWord (pos 1 +ℤ flaw rate draw i)
flaw_fits rate draw i = go (is_due rate draw (3 + 4 * i)) (draw (4 + 4 * i) % 2 == 0)
  where
    go : (due even : Bool) → IsWord (pos 1 +ℤ (let f : ℤ = elim due [ true ↦ if even then pos 1 else negsuc 0 | false ↦ pos 0 ] in f))
    go true true = place_fits 2 (omega arith)
    go true false = place_fits 0 (omega arith)
    go false even = place_fits 1 (omega arith)

pub step_within : (s : Settings) (draw : ℕ → ℕ) (i m : ℕ) (c : Creature) (cells : ℕ → ℕ) → Counted m c → Within (m + 1) (answer (step s draw i c) cells)
unfolding step
step_within s draw i m c cells h =
    execute_within s (flaw s.flaw_rate draw i) (copy_bit s.copy_rate draw i) c.ip m
    (record c { ip = (c.ip + 1) % s.soup_size; flag = 0; ran = c.ran + 1 })
    (with_flag h.0 0 (omega arith)) h.1 (omega (arith, h.2)) (omega (arith, s.soup)) (flaw_fits s.flaw_rate draw i) cells (op_of (cells c.ip))
