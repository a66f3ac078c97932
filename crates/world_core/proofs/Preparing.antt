-- What is prepared: the daughter block that is held and the cells as events are done, and the codes of the newborns.
use Rattle.std.proofs.Common.{◌≡◌, ℕ, zero, suc, ◌+◌, ◌-◌, ◌*◌, ◌^◌, ◌<◌, ◌≤◌, Bool, true, false, List, [], ◌∷◌, ◌++◌, refl, sym, ◌∙◌, ap, append_assoc, arith}
use Rattle.std.proofs.Common.{drop, get_or, length, set, subst, take}
use Rattle.std.proofs.Math.Seq.{take-set-lt}
use Rattle.std.proofs.lemmas.List.{drop-set-add, drop-set-lt, length-set, take-set-le}
use Rattle.std.proofs.lemmas.Bool.Decides.{nat_tests}
use Rattle.std.specs.Prelude.{IfSome, None, Option, Some, if◌then◌else◌, nat_le, nat_lt, slice_range, ◌&&◌}
use Rattle.tierra_model.specs.declared.creatures.Block.{Block}
use Rattle.tierra_model.specs.declared.creatures.Creature.{Creature}
use Rattle.tierra_model.specs.declared.events.Event.{Event}
use Rattle.tierra_model.specs.declared.events.Event.TheVariants as event
use Rattle.tierra_model.specs.Counting.{sum_of}
use Rattle.tierra_model.specs.World.{World, front}
use Rattle.tierra_model.specs.Events.{apply_event, record_after}
use Rattle.tierra_model.specs.Replay.{CanAllHappen, CanHappen, after_events}
use Rattle.tierra_model.proofs.Commutes.{HasFront}
use Rattle.tierra_model.proofs.EventsKeep.{front-event}
use Rattle.tierra_model.specs.declared.parameters.Settings.{Settings}
use Rattle.tierra_model.specs.Ranges.{IsBlock}
use Rattle.tierra_model.specs.Sound.{IsSound, count_limit}
use Rattle.tierra_model.proofs.BetweenEvents.{within-events}
use Rattle.tierra_model.proofs.EventEffects.{settings-event, soup-event, soup_after}
use Rattle.tierra_model.proofs.Population.{front-in_bounds}
use Rattle.tierra_model.proofs.Sound.{within-start}
use Rattle.tierra_model.proofs.WithinQuantum.{WithinQuantum}
use Rattle.world_core.proofs.Within.{running-within}
use Rattle.world_core.specs.Running.{IsRunning, WorldFields}
use Rattle.world_core.specs.Prepared.{CanWrite, CanWriteAll, WritesBelow, code_born, codes_born, daughter_after, with_write, with_writes, written_into}

-- ---- an event of a list, and those before it

pub can-at : (w : World) (es : List Event) (i : ℕ) (d : Event) → i < length es → CanAllHappen w es → CanHappen (after_events w (take i es)) (get_or es i d)
can-at w [] i d h c = absurd (omega arith)
can-at w (e ∷ es) zero d h c = c.0
can-at w (e ∷ es) (suc i) d h c = can-at (apply_event w e) es i d (omega arith) c.1

pub can-first : (w : World) (es : List Event) (i : ℕ) → CanAllHappen w es → CanAllHappen w (take i es)
can-first w [] zero c = tt
can-first w [] (suc i) c = tt
can-first w (e ∷ es) zero c = tt
can-first w (e ∷ es) (suc i) c = (c.0, can-first (apply_event w e) es i c.1)

pub after-append : (w : World) (xs : List Event) (e : Event) → after_events w (xs ++ e ∷ []) ≡ apply_event (after_events w xs) e
after-append w [] e = refl
after-append w (x ∷ xs) e = after-append (apply_event w x) xs e

-- ---- what is held, and the cells

pub daughter-record : (e : Event) (c : Creature) → (record_after e c).daughter ≡ daughter_after e c.daughter
daughter-record event.Err c = refl
daughter-record _ c = refl

pub daughter-event : (w : World) (e : Event) → HasFront w → CanHappen w e → (front (apply_event w e)).daughter ≡ daughter_after e (front w).daughter
daughter-event w e f c = ap (λ (x : Creature). x.daughter) (front-event w e f c).front ∙ daughter-record e (front w)

with_write-is : (e : Event) (soup : List ℕ) → soup_after e soup ≡ with_write e soup
with_write-is (event.Write at value) soup = refl
with_write-is _ soup = refl

pub soup-events : (w : World) (es : List Event) → (after_events w es).soup ≡ with_writes es w.soup
soup-events w [] = refl
soup-events w (e ∷ es) = soup-events (apply_event w e) es ∙ ap (with_writes es) (soup-event w e ∙ with_write-is e w.soup)

pub writes-append : (xs : List Event) (e : Event) (soup : List ℕ) → with_writes (xs ++ e ∷ []) soup ≡ with_write e (with_writes xs soup)
writes-append [] e soup = refl
writes-append (x ∷ xs) e soup = writes-append xs e (with_write x soup)

pub codes-append : (w : World) (xs : List Event) (e : Event) → codes_born w (xs ++ e ∷ []) ≡ codes_born w xs ++ code_born (after_events w xs) e
codes-append w [] e = append_nil (code_born w e)
  where
    append_nil : (l : List (List ℕ)) → l ++ [] ≡ l
    append_nil [] = refl
    append_nil (x ∷ xs) = ap (λ (l : List (List ℕ)). x ∷ l) (append_nil xs)
codes-append w (x ∷ xs) e =
    ap (λ (l : List (List ℕ)). code_born w x ++ l) (codes-append (apply_event w x) xs e)
    ∙ sym (append_assoc (code_born w x) (codes_born (apply_event w x) xs) (code_born (after_events (apply_event w x) xs) e))

-- ---- the code of a block, as cells are written

length-with_write : (e : Event) (soup : List ℕ) → length (with_write e soup) ≡ length soup
length-with_write (event.Write at value) soup = length-set soup at value
length-with_write _ soup = refl

pub length-with_writes : (es : List Event) (soup : List ℕ) → length (with_writes es soup) ≡ length soup
length-with_writes [] soup = refl
length-with_writes (e ∷ es) soup = length-with_writes es (with_write e soup) ∙ length-with_write e soup

-- a part of a list after a write
set-before : (soup : List ℕ) (from n at v : ℕ) → at < from → take n (drop from (set soup at v)) ≡ take n (drop from soup)
set-before soup from n at v h = ap (take n) (drop-set-lt from soup at v h)

set-within : (soup : List ℕ) (from n at v : ℕ) → from ≤ at → at < from + n → take n (drop from (set soup at v)) ≡ set (take n (drop from soup)) (at - from) v
set-within soup from n at v l h =
    let k : ℕ = at - from in
    let here : at ≡ from + k = omega arith in
    ap (λ (p : ℕ). take n (drop from (set soup p v))) here ∙ ap (take n) (drop-set-add from soup k v) ∙ take-set-lt n (drop from soup) k v (omega arith)

set-behind : (soup : List ℕ) (from n at v : ℕ) → from + n ≤ at → take n (drop from (set soup at v)) ≡ take n (drop from soup)
set-behind soup from n at v l =
    let k : ℕ = at - from in
    let here : at ≡ from + k = omega arith in
    ap (λ (p : ℕ). take n (drop from (set soup p v))) here ∙ ap (take n) (drop-set-add from soup k v) ∙ take-set-le n (drop from soup) k v (omega arith)

set-range : (soup : List ℕ) (from size at v : ℕ)
    → slice_range (set soup at v) from (from + size)
    ≡ (if nat_le from at && nat_lt at (from + size) then set (slice_range soup from (from + size)) (at - from) v else slice_range soup from (from + size))
set-range soup from size at v = go (nat_le from at) refl (nat_lt at (from + size)) refl
  where
    n : ℕ
    n = from + size - from

    go : (a : Bool) → nat_le from at ≡ a → (b : Bool) → nat_lt at (from + size) ≡ b
        → take n (drop from (set soup at v)) ≡ (if a && b then set (take n (drop from soup)) (at - from) v else take n (drop from soup))
    go false e b f = set-before soup from n at v (grind (arith, nat_tests))
    go true e true f = set-within soup from n at v (grind (arith, nat_tests)) (let h : at < from + size = grind (arith, nat_tests) in omega arith)
    go true e false f = set-behind soup from n at v (let h : from + size ≤ at = grind (arith, nat_tests) in omega arith)

pub written-range : (e : Event) (b : Block) (soup : List ℕ)
    → slice_range (with_write e soup) b.at (b.at + b.size) ≡ written_into b e (slice_range soup b.at (b.at + b.size))
written-range (event.Write at value) b soup = set-range soup b.at b.size at value
written-range _ b soup = refl

-- ---- cells that can be set

pub can_write-append : (h : WorldFields) (xs : List Event) (e : Event) → CanWriteAll h xs → CanWrite h e → CanWriteAll h (xs ++ e ∷ [])
can_write-append h [] e c d = (d, tt)
can_write-append h (x ∷ xs) e c d = (c.0, can_write-append h xs e c.1 d)

-- ---- sums

pub sum-append : (f : Event → ℕ) (xs : List Event) (e : Event) → sum_of f (xs ++ e ∷ []) ≡ sum_of f xs + f e
sum-append f [] e = omega arith
sum-append f (x ∷ xs) e = omega (arith, sum-append f xs e)

-- ---- events that can happen in a sound world

below-event : (w : World) (e : Event) (n : ℕ) → w.settings.soup_size ≡ n → CanHappen w e → WritesBelow n e
below-event w (event.Write at value) n same c = subst (λ (k : ℕ). at < k) same c.0
below-event w event.Err n same c = tt
below-event w event.Good n same c = tt
below-event w event.GiveUp n same c = tt
below-event w (event.Mal at size) n same c = tt
below-event w (event.Reap place) n same c = tt
below-event w (event.Divide ran moved) n same c = tt

pub writes-below : (w : World) (es : List Event) (i : ℕ) (d : Event) (n : ℕ) → w.settings.soup_size ≡ n → i < length es → CanAllHappen w es
    → WritesBelow n (get_or es i d)
writes-below w [] i d n same h c = absurd (omega arith)
writes-below w (e ∷ es) zero d n same h c = below-event w e n same c.0
writes-below w (e ∷ es) (suc i) d n same h c =
    writes-below (apply_event w e) es i d n (ap (λ (s : Settings). s.soup_size) (settings-event w e) ∙ same) (omega arith) c.1

abbrev limit : World → ℕ
limit w = count_limit w.quanta

-- the world within its quantum after the events
within-after : (w : World) (es : List Event) → IsSound w → CanAllHappen w es
    → WithinQuantum w.settings (limit w + length es) (limit w) (limit w + length es) (0 + 20100 * length es) (w.quanta + 1) (after_events w es)
within-after w es s c = within-events w.settings (limit w) (limit w) (limit w) 0 (w.quanta + 1) es w (within-start w s) c

pub running-after : (w : World) (es : List Event) → IsSound w → CanAllHappen w es → length es < 2 ^ 31 → IsRunning (after_events w es)
running-after w es s c few =
    let past : w.quanta ≤ 4000000 = s.quanta in
    running-within w.settings (limit w + length es) (limit w) (limit w + length es) (0 + 20100 * length es) (w.quanta + 1) (after_events w es)
    (within-after w es s c) (omega arith) (omega arith) (omega arith)

pub front-after : (w : World) (es : List Event) → IsSound w → CanAllHappen w es → HasFront (after_events w es)
front-after w es s c = (within-after w es s c).population.has_front

-- a daughter block that is held lies in the soup
pub held-lies : (w : World) (es : List Event) → IsSound w → CanAllHappen w es → IfSome (front (after_events w es)).daughter (λ b. b.at + b.size ≤ length w.soup)
held-lies w es s c =
    let n : ℕ = w.settings.soup_size in
    let bounds = front-in_bounds n (limit w + length es) (limit w) (limit w + length es) (after_events w es) (within-after w es s c).population in
    lies (front (after_events w es)).daughter bounds.daughter
  where
    lies : (o : Option Block) → IfSome o (IsBlock w.settings.soup_size) → IfSome o (λ b. b.at + b.size ≤ length w.soup)
    lies None h = tt
    lies (Some b) h = (let end : b.at + b.size ≤ w.settings.soup_size = h.2 in let cells : length w.soup ≡ w.settings.soup_size = s.cells in omega arith)
