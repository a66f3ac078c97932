-- The free list of a scene shows which cells of the world are free, after each event.
use Rattle.std.proofs.Common.{◌≡◌, ℕ, ◌+◌, ◌≤◌, Bool, true, false, List, sym, ◌∙◌, ap, subst, arith}
use Rattle.std.specs.Prelude.{Option, not, ◌||◌, ◌&&◌, nat_lt, slice_index, slice_index_or}
use Rattle.std.proofs.lemmas.Bool.Decides.{nat_tests}
use Rattle.tierra_model.specs.declared.creatures.Block.{Block}
use Rattle.tierra_model.specs.declared.creatures.Standing.{Standing}
use Rattle.tierra_model.specs.declared.events.Event.{Event}
use Rattle.tierra_model.specs.declared.events.Event.TheVariants as event
use Rattle.tierra_model.specs.Counting.{one_if}
use Rattle.tierra_model.specs.Blocks.{is_in, is_in_daughter}
use Rattle.tierra_model.specs.Living.{one_of}
use Rattle.tierra_model.specs.World.{World, front}
use Rattle.tierra_model.specs.Room.{is_owned}
use Rattle.tierra_model.specs.Sound.{owners}
use Rattle.tierra_model.specs.Events.{apply_event, with_death}
use Rattle.tierra_model.specs.FreeList.{is_in_some}
use Rattle.tierra_model.specs.Yard.{no_standing}
use Rattle.tierra_model.specs.Scene.{Scene, apply_in_scene}
use Rattle.tierra_model.specs.Replay.{CanHappen}
use Rattle.tierra_model.proofs.Shares.{Shares}
use Rattle.tierra_model.proofs.Owners.{is_owned-owners}
use Rattle.tierra_model.proofs.Commutes.{HasFront, put_after}
use Rattle.tierra_model.proofs.Free.{AlikeBelow, runs_of_in}
use Rattle.tierra_model.proofs.EachOnce.{EachOnce, owners-put_after, owners-divide, owners-reap}
use Rattle.tierra_model.proofs.EventsKeep.{owners-mal, reaped-is_here}
use Rattle.tierra_model.proofs.EventEffects.{with_newborn-keeps}

-- cells that come free
give_bool : (free a b : Bool) (old new : ℕ) → not free ≡ nat_lt 0 old → old ≤ 1 → new + (one_if a + one_if b) ≡ old → not (free || (a || b)) ≡ nat_lt 0 new
give_bool true true b old new h one e = grind (arith, nat_tests)
give_bool true false b old new h one e = grind (arith, nat_tests)
give_bool false true true old new h one e = grind (arith, nat_tests)
give_bool false true false old new h one e = grind (arith, nat_tests)
give_bool false false true old new h one e = grind (arith, nat_tests)
give_bool false false false old new h one e = grind (arith, nat_tests)

give_one : (free a : Bool) (old new : ℕ) → not free ≡ nat_lt 0 old → old ≤ 1 → new + one_if a ≡ old → not (free || a) ≡ nat_lt 0 new
give_one true true old new h one e = grind (arith, nat_tests)
give_one true false old new h one e = grind (arith, nat_tests)
give_one false true old new h one e = grind (arith, nat_tests)
give_one false false old new h one e = grind (arith, nat_tests)

-- cells that are taken
take_bool : (free b : Bool) (old new : ℕ) → not free ≡ nat_lt 0 old → new ≡ old + one_if b → not (free && not b) ≡ nat_lt 0 new
take_bool true true old new h e = grind (arith, nat_tests)
take_bool true false old new h e = grind (arith, nat_tests)
take_bool false true old new h e = grind (arith, nat_tests)
take_bool false false old new h e = grind (arith, nat_tests)

-- below n, the cells that are not in the free list are those that the world owns
abbrev pub FreeAlike : ℕ → List Block → World → Type 0
FreeAlike n free v = AlikeBelow n (λ p. not (is_in_some free p)) (λ p. is_owned v.living p)

same-owners : (n : ℕ) (free : List Block) (v w : World) → ((p : ℕ) → owners w.living p ≡ owners v.living p) → FreeAlike n free v → FreeAlike n free w
same-owners n free v w h a q k =
    a q k ∙ is_owned-owners v.living q ∙ ap (λ (m : ℕ). nat_lt 0 m) (sym (h q)) ∙ sym (is_owned-owners w.living q)

-- the block and the daughter block of the one that is reaped, as the yard has them
abbrev pub IsShown : Scene → World → Event → Type 0
IsShown s v (event.Reap place) =
    ((slice_index_or s.yard place no_standing).own ≡ (one_of v.living (slice_index v.reaper place)).own)
    × ((slice_index_or s.yard place no_standing).daughter ≡ (one_of v.living (slice_index v.reaper place)).daughter)
IsShown s v _ = Unit {0}

pub free-event : (k : ℕ) (s : Scene) (v : World) (e : Event) → HasFront v → EachOnce v → CanHappen v e → Shares (front v) s.front → IsShown s v e
    → FreeAlike s.settings.soup_size s.free v → FreeAlike s.settings.soup_size (apply_in_scene k s e).free (apply_event v e)
unfolding apply_event apply_in_scene
free-event k s v (event.Write at value) l t c f r a = a
free-event k s v event.Err l t c f r a =
    same-owners s.settings.soup_size s.free v (put_after event.Err v) (λ p. omega (arith, owners-put_after event.Err v p l t)) a
free-event k s v event.Good l t c f r a = a
free-event k s v event.GiveUp l t c f r a = λ q h.
    let d : one_if (is_in_daughter s.front.daughter q) ≡ one_if (is_in_daughter (front v).daughter q)
    = ap (λ (b : Option Block). one_if (is_in_daughter b q)) f.daughter in
    ap not (runs_of_in s.settings.soup_size (λ p. is_in_some s.free p || is_in_daughter s.front.daughter p) q h)
    ∙ give_one (is_in_some s.free q) (is_in_daughter s.front.daughter q) (owners v.living q) (owners (put_after event.GiveUp v).living q)
    (a q h ∙ is_owned-owners v.living q) (t.apart q) (omega (arith, owners-put_after event.GiveUp v q l t, d))
    ∙ sym (is_owned-owners (put_after event.GiveUp v).living q)
free-event k s v (event.Mal at size) l t c f r a = λ q h.
    ap not (runs_of_in s.settings.soup_size (λ p. is_in_some s.free p && not (is_in (record { at = at; size = size }) p)) q h)
    ∙ take_bool (is_in_some s.free q) (is_in (record { at = at; size = size }) q) (owners v.living q) (owners (apply_event v (event.Mal at size)).living q)
    (a q h ∙ is_owned-owners v.living q) (owners-mal v at size q l t c.0)
    ∙ sym (is_owned-owners (apply_event v (event.Mal at size)).living q)
free-event k s v (event.Reap place) l t c f r a = λ q h.
    let x : Standing = slice_index_or s.yard place no_standing in
    let id : ℕ = slice_index v.reaper place in
    let own : one_if (is_in x.own q) ≡ one_if (is_in (one_of v.living id).own q) = ap (λ (b : Block). one_if (is_in b q)) r.0 in
    let d : one_if (is_in_daughter x.daughter q) ≡ one_if (is_in_daughter (one_of v.living id).daughter q)
    = ap (λ (b : Option Block). one_if (is_in_daughter b q)) r.1 in
    ap not (runs_of_in s.settings.soup_size (λ p. is_in_some s.free p || (is_in x.own p || is_in_daughter x.daughter p)) q h)
    ∙ give_bool (is_in_some s.free q) (is_in x.own q) (is_in_daughter x.daughter q) (owners v.living q) (owners (with_death id v).living q)
    (a q h ∙ is_owned-owners v.living q) (t.apart q) (omega (arith, owners-reap v id q t (reaped-is_here v place t c.0), own, d))
    ∙ sym (is_owned-owners (with_death id v).living q)
free-event k s v (event.Divide ran moved) l t c f r a =
    subst (λ (fr : List Block). FreeAlike s.settings.soup_size fr (apply_event v (event.Divide ran moved)))
    (sym (with_newborn-keeps (k + 1) s.front.daughter s).2)
    (same-owners s.settings.soup_size s.free v (apply_event v (event.Divide ran moved)) (λ p. owners-divide ran moved v p l t) a)
