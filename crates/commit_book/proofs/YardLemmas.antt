-- The yard of a world, after an event.
use Rattle.std.proofs.Common.{◌≡◌, ℕ, suc, ◌∷◌, ◌^◌, ◌<◌, ◌≤◌, List, [], refl, sym, ◌∙◌, ap, subst, arith, length, inl, inr}
use Rattle.std.specs.Prelude.{Option, None, Some, IsSome, if◌then◌else◌, map, ◌++◌, ◌==◌}
use Rattle.std.proofs.lemmas.Bool.Decides.{leb_tells}
use Rattle.tierra_model.specs.declared.creatures.Block.{Block}
use Rattle.tierra_model.specs.declared.creatures.Creature.{Creature}
use Rattle.tierra_model.specs.declared.creatures.Standing.{Standing}
use Rattle.tierra_model.specs.declared.events.Event.{Event}
use Rattle.tierra_model.specs.declared.events.Event.TheVariants as event
use Rattle.tierra_model.specs.Counting.{times_in}
use Rattle.tierra_model.specs.Events.{apply_event, record_after}
use Rattle.tierra_model.specs.Living.{ids_of, one_of}
use Rattle.tierra_model.specs.Queue.{error_move, good_move}
use Rattle.tierra_model.specs.Replay.{CanHappen}
use Rattle.tierra_model.specs.Scene.{Scene, apply_in_scene}
use Rattle.tierra_model.specs.SceneRun.{births_of}
use Rattle.tierra_model.specs.World.{World, front}
use Rattle.tierra_model.specs.Yard.{standing, with_standing, yard}
use Rattle.tierra_model.proofs.EventEffects.{next_birth-event}
use Rattle.tierra_model.proofs.Living.{one_of-id}
use Rattle.tierra_model.proofs.Owners.{is_here-times}
use Rattle.tierra_model.proofs.SceneYards.{yard-event}
use Rattle.tierra_model.proofs.Shares.{Shares}
use Rattle.tierra_model.proofs.Yards.{map-cong-in, renamed, renamed-old, stands_as}
use Rattle.quantum_run.proofs.Yarding.{remove-is}
use Rattle.world_core.specs.Running.{IsRunning}
use Rattle.world_core.proofs.Within.{each_once, front_here, front_is, has_front}
use Rattle.commit_book.specs.Shown.{newborn_in, yard_after_event}
use Rattle.commit_book.proofs.YardBirths.{yard-divide}

length-map : {X Y : Type 0} (f : X → Y) (xs : List X) → length (map f xs) ≡ length xs
length-map f [] = refl
length-map f (x ∷ xs) = ap (λ (n : ℕ). suc n) (length-map f xs)

-- ---- numbers

-- who lives has a number below the next one
id-below : (w : World) → IsRunning w → (id : ℕ) → 0 < times_in (ids_of w.living) id → id < w.next_birth
id-below w r id here = elim (leb_tells w.next_birth id) [
  | inl e ↦ absurd (omega (arith, r.fresh id e.1, here))
  | inr e ↦ omega (arith, e.1)
]

-- each of the living stands under its own number
yard-as : (w : World) (n : ℕ) → IsRunning w → w.next_birth ≤ n → yard w ≡ map (stands_as n w.living) w.reaper
yard-as w n r le =
    map-cong-in (λ id. standing (one_of w.living id)) (stands_as n w.living) w.reaper (λ id there.
    let here : 0 < times_in (ids_of w.living) id = subst (λ (k : ℕ). 0 < k) (r.reaper id) there in
    let number : (one_of w.living id).id ≡ renamed n id =
    one_of-id w.living id (is_here-times w.living id here) ∙ sym (renamed-old n id (omega (arith, id-below w r id here, le))) in
    (λ i. let x : Standing = record (standing (one_of w.living id)) { id = number i } in x))

-- ---- what a yard shows

-- a record's standing alone counts
shown-same : (c d : Creature) (standings : List Standing) → standing c ≡ standing d → with_standing c standings ≡ with_standing d standings
shown-same c d standings e = ap (λ (s : Standing). map (λ x. if x.id == s.id then s else x) standings) e

-- a yard after an event, with the record of which the standing alone is known
after-same : (e : Event) (b : Option Block) (n : ℕ) (c d : Creature) (standings : List Standing) → standing c ≡ standing d
    → yard_after_event e b n c standings ≡ yard_after_event e b n d standings
after-same (event.Write at value) b n c d standings h = refl
after-same event.Err b n c d standings h =
    ap (λ (s : Standing). error_move (λ x. x.id == s.id) (λ x. x.errors) (map (λ x. if x.id == s.id then s else x) standings)) h
after-same event.Good b n c d standings h =
    ap (λ (s : Standing). good_move (λ x. x.id == s.id) (λ x. x.errors) standings) h
after-same event.GiveUp b n c d standings h = shown-same c d standings h
after-same (event.Mal at size) b n c d standings h = shown-same c d standings h
after-same (event.Reap place) b n c d standings h = refl
after-same (event.Divide ran moved) b n c d standings h = ap (λ (l : List Standing). l ++ newborn_in b n) (shown-same c d standings h)

-- ---- an event that bears nobody

abbrev scene-with : World → List Standing → Scene
scene-with w standings = record { settings = w.settings; quanta = w.quanta; front = front w; soup = w.soup; free = []; yard = standings }

-- it is the yard of the scene in which the event happens
in-scene : (w : World) (e : Event) (b : Option Block) (n : ℕ) (standings : List Standing) → length standings ≡ length w.reaper → CanHappen w e
    → births_of e ≡ 0 → yard_after_event e b n (record_after e (front w)) standings ≡ (apply_in_scene 0 (scene-with w standings) e).yard
unfolding apply_in_scene
in-scene w (event.Write at value) b n standings len can none = refl
in-scene w event.Err b n standings len can none = refl
in-scene w event.Good b n standings len can none = refl
in-scene w event.GiveUp b n standings len can none = refl
in-scene w (event.Mal at size) b n standings len can none = refl
in-scene w (event.Reap place) b n standings len can none = remove-is place standings (omega (arith, can.0, len))
in-scene w (event.Divide ran moved) b n standings len can none = absurd (omega (arith, none))

yard-without_birth : (w : World) (e : Event) (b : Option Block) (n : ℕ) (standings : List Standing) → IsRunning w → IsRunning (apply_event w e)
    → CanHappen w e → births_of e ≡ 0 → standings ≡ yard w
    → yard_after_event e b n (record_after e (front w)) standings ≡ yard (apply_event w e)
yard-without_birth w e b n standings r r' can none was =
    let next : ℕ = w.next_birth in
    let shown : standings ≡ map (stands_as next w.living) w.reaper = was ∙ yard-as w next r (omega arith) in
    let len : length standings ≡ length w.reaper = ap length was ∙ length-map (λ id. standing (one_of w.living id)) w.reaper in
    let own : Shares (front w) (front w) = record { id = refl; own = refl; daughter = refl; errors = refl; genotype = refl; bred = refl } in
    let few : next < 2 ^ 60 = r.next_birth in
    let alike = yard-event next 0 (scene-with w standings) w e (has_front w r) (each_once w r) can own (front_is w r)
    (id-below w r (front w).id (front_here w r)) (omega (arith, few)) (omega arith) shown in
    in-scene w e b n standings len can none
    ∙ alike
    ∙ sym (yard-as (apply_event w e) next r' (omega (arith, next_birth-event w e can, none)))

-- ---- a birth

yard-with_birth : (w : World) (ran moved : ℕ) (standings : List Standing) → IsRunning w → (b : Option Block) → (front w).daughter ≡ b → IsSome b
    → standings ≡ yard w
    → yard_after_event (event.Divide ran moved) b w.next_birth (record_after (event.Divide ran moved) (front w)) standings
    ≡ yard (apply_event w (event.Divide ran moved))
yard-with_birth w ran moved standings r None held some was = absurd (let n : ⊥ = cc in n)
yard-with_birth w ran moved standings r (Some own) held some was =
    ap (λ (l : List Standing). yard_after_event (event.Divide ran moved) (Some own) w.next_birth (record_after (event.Divide ran moved) (front w)) l) was
    ∙ sym (yard-divide w ran moved own (has_front w r) (each_once w r) (id-below w r (front w).id (front_here w r)) held)

-- ---- any event

yard-after : (w : World) (e : Event) (standings : List Standing) → IsRunning w → IsRunning (apply_event w e) → CanHappen w e → standings ≡ yard w
    → yard_after_event e (front w).daughter w.next_birth (record_after e (front w)) standings ≡ yard (apply_event w e)
yard-after w (event.Divide ran moved) standings r r' can was = yard-with_birth w ran moved standings r (front w).daughter refl can.0 was
yard-after w (event.Write at value) standings r r' can was =
    yard-without_birth w (event.Write at value) (front w).daughter w.next_birth standings r r' can refl was
yard-after w event.Err standings r r' can was = yard-without_birth w event.Err (front w).daughter w.next_birth standings r r' can refl was
yard-after w event.Good standings r r' can was = yard-without_birth w event.Good (front w).daughter w.next_birth standings r r' can refl was
yard-after w event.GiveUp standings r r' can was = yard-without_birth w event.GiveUp (front w).daughter w.next_birth standings r r' can refl was
yard-after w (event.Mal at size) standings r r' can was =
    yard-without_birth w (event.Mal at size) (front w).daughter w.next_birth standings r r' can refl was
yard-after w (event.Reap place) standings r r' can was =
    yard-without_birth w (event.Reap place) (front w).daughter w.next_birth standings r r' can refl was

pub yard-follows : (w : World) (e : Event) (before c : Creature) (n : ℕ) (standings now : List Standing) → IsRunning w → IsRunning (apply_event w e)
    → CanHappen w e → standing before ≡ standing (front w) → n ≡ w.next_birth → standing c ≡ standing (record_after e (front w))
    → standings ≡ yard w → now ≡ yard_after_event e before.daughter n c standings → now ≡ yard (apply_event w e)
yard-follows w e before c n standings now r r' can before_is number record_is was is =
    is
    ∙ after-same e before.daughter n c (record_after e (front w)) standings record_is
    ∙ (λ i. yard_after_event e (before_is i).daughter (number i) (record_after e (front w)) standings)
    ∙ yard-after w e standings r r' can was
