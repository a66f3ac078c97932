-- The yard of a scene shows the reaper queue of the world, after each event.
use Rattle.std.proofs.Common.{◌≡◌, ℕ, ◌+◌, ◌^◌, ◌<◌, ◌≤◌, true, List, [], ◌∷◌, ◌++◌, refl, sym, ◌∙◌, ap, subst, arith}
use Rattle.std.specs.Prelude.{Some, None, Option, map, unwrap_or, slice_index, slice_range}
use Rattle.std.proofs.lemmas.List.{map-append}
use Rattle.tierra_model.specs.declared.creatures.Block.{Block}
use Rattle.tierra_model.specs.declared.creatures.Creature.{Creature}
use Rattle.tierra_model.specs.declared.creatures.Standing.{Standing}
use Rattle.tierra_model.specs.declared.events.Event.{Event}
use Rattle.tierra_model.specs.declared.events.Event.TheVariants as event
use Rattle.tierra_model.specs.Queue.{error_move, good_move, without_place}
use Rattle.tierra_model.specs.Living.{one_of, with_record, without, newborn, nobody}
use Rattle.tierra_model.specs.World.{World, Genotype, front, first_of}
use Rattle.tierra_model.specs.Individuals.{with_individual, genotypes_at_birth}
use Rattle.tierra_model.specs.Events.{apply_event, record_after, with_birth, errors_in, has_id}
use Rattle.tierra_model.specs.Yard.{with_standing, standing, stand_in, is_standing_of}
use Rattle.tierra_model.specs.Scene.{Scene, apply_in_scene, with_newborn}
use Rattle.tierra_model.specs.Replay.{CanHappen}
use Rattle.tierra_model.proofs.Shares.{Shares}
use Rattle.tierra_model.proofs.Living.{is_here, find-append, find-without, find-last}
use Rattle.tierra_model.proofs.Owners.{is_here-times}
use Rattle.tierra_model.proofs.Commutes.{HasFront, front-id, has_front-put, put_after, record_after-id, error_move-cong, good_move-cong}
use Rattle.tierra_model.proofs.Yards.{renamed, renamed-new, stands_as, map-cong, with_standing-map, stands-fits, map-error_move, map-good_move}
use Rattle.tierra_model.proofs.Yards.{without_place-map, without_place-filter, map-filter-cong, map-cong-in, is_standing_of-renamed}
use Rattle.tierra_model.proofs.EachOnce.{EachOnce, front-with_birth}
use Rattle.tierra_model.proofs.EventEffects.{shares-event}

-- the yard has the standing of each creature of the reaper queue, newborns under their stand-ins from n on
abbrev pub YardAlike : ℕ → List Standing → World → Type 0
YardAlike n standings v = standings ≡ map (stands_as n v.living) v.reaper

-- the record after an event that changes it alone
yard-put_after : (n : ℕ) (e : Event) (c : Creature) (standings : List Standing) (v : World) → HasFront v → Shares (front v) c → c.id ≡ first_of v.slicer
    → c.id < n → c.id < 2 ^ 63 → YardAlike n standings v
    → with_standing (record_after e c) standings ≡ map (stands_as n (put_after e v).living) v.reaper
yard-put_after n e c standings v l f same h k y =
    let id : (record_after e c).id ≡ c.id = record_after-id e c in
    let here : is_here v.living (record_after e c).id ≡ true = rw (id, same) l.here in
    ap (with_standing (record_after e c)) y
    ∙ with_standing-map n (record_after e c) v.living v.reaper (rw id h) (rw id k) here
    ∙ map-cong (stands_as n (with_record (record_after e c) v.living)) (stands_as n (put_after e v).living)
    (stands-fits n (record_after e (front v)) (record_after e c) v.living (shares-event e (front v) c f) here) v.reaper

-- the moves of the mover c, where u is the world and its front is the mover
yard-error_move : (n : ℕ) (c : Creature) (u : World) → c.id ≡ (front u).id → c.id < n → c.id < 2 ^ 63
    → error_move (is_standing_of c) (λ x. x.errors) (map (stands_as n u.living) u.reaper)
    ≡ map (stands_as n u.living) (error_move (has_id (front u)) (errors_in u) u.reaper)
yard-error_move n c u same h k =
    sym (map-error_move (stands_as n u.living) (is_standing_of c) (λ x. x.errors) u.reaper)
    ∙ ap (map (stands_as n u.living))
    (error_move-cong (λ id. is_standing_of c (stands_as n u.living id)) (has_id (front u)) (λ id. (stands_as n u.living id).errors) (errors_in u)
    (λ id. is_standing_of-renamed n c.id (front u).id h k same id) (λ id. refl) u.reaper)

yard-good_move : (n : ℕ) (c : Creature) (u : World) → c.id ≡ (front u).id → c.id < n → c.id < 2 ^ 63
    → good_move (is_standing_of c) (λ x. x.errors) (map (stands_as n u.living) u.reaper)
    ≡ map (stands_as n u.living) (good_move (has_id (front u)) (errors_in u) u.reaper)
yard-good_move n c u same h k =
    sym (map-good_move (stands_as n u.living) (is_standing_of c) (λ x. x.errors) u.reaper)
    ∙ ap (map (stands_as n u.living))
    (good_move-cong (λ id. is_standing_of c (stands_as n u.living id)) (has_id (front u)) (λ id. (stands_as n u.living id).errors) (errors_in u)
    (λ id. is_standing_of-renamed n c.id (front u).id h k same id) (λ id. refl) u.reaper)

yard-with_newborn : (n k : ℕ) (s : Scene) (v : World) (d : Option Block) (mother : ℕ) (known : List Genotype) → EachOnce v → v.next_birth ≡ n + k
    → YardAlike n s.yard v → YardAlike n (with_newborn (k + 1) d s).yard (with_birth known d mother v)
yard-with_newborn n k s v None mother known t next y = y
yard-with_newborn n k s v (Some b) mother known t next y =
    let g : ℕ = (with_individual known (slice_range v.soup b.at (b.at + b.size)) (Some mother) (v.quanta + 1)).1 in
    let nb : Creature = newborn v.next_birth b g in
    let l : List Creature = v.living ++ nb ∷ [] in
    let new : Standing = record { id = stand_in (k + 1); errors = 0; own = b; daughter = None } in
    let id : renamed n v.next_birth ≡ stand_in (k + 1) = ap (renamed n) next ∙ renamed-new n k in
    let last : one_of l v.next_birth ≡ nb = ap (λ (o : Option Creature). unwrap_or o nobody) (find-last v.living nb (t.fresh v.next_birth (omega arith))) in
    let joins : stands_as n l v.next_birth ≡ new =
    (λ i. let st : Standing = record { id = id i; errors = (last i).errors; own = (last i).own; daughter = (last i).daughter } in st) in
    let others : map (stands_as n l) v.reaper ≡ map (stands_as n v.living) v.reaper =
    map-cong-in (stands_as n l) (stands_as n v.living) v.reaper (λ x there.
    ap (λ (o : Option Creature). let st : Standing = record (standing (unwrap_or o nobody)) { id = renamed n x } in st)
    (find-append v.living (nb ∷ []) x (is_here-times v.living x (rw (← t.reaper x) there)))) in
    ap (λ (m : List Standing). m ++ new ∷ []) (y ∙ sym others)
    ∙ ap (λ (st : Standing). map (stands_as n l) v.reaper ++ st ∷ []) (sym joins)
    ∙ sym (map-append (stands_as n l) v.reaper (v.next_birth ∷ []))

pub yard-event : (n k : ℕ) (s : Scene) (v : World) (e : Event) → HasFront v → EachOnce v → CanHappen v e → Shares (front v) s.front
    → s.front.id ≡ first_of v.slicer → s.front.id < n → n ≤ 2 ^ 63 → v.next_birth ≡ n + k
    → YardAlike n s.yard v → YardAlike n (apply_in_scene k s e).yard (apply_event v e)
unfolding apply_event apply_in_scene
yard-event n k s v (event.Write at value) l t c f same old small next y = y
yard-event n k s v event.Err l t c f same old small next y =
    let e : Event = event.Err in
    let u : World = put_after e v in
    ap (error_move (is_standing_of (record_after e s.front)) (λ x. x.errors)) (yard-put_after n e s.front s.yard v l f same old (omega arith) y)
    ∙ yard-error_move n (record_after e s.front) u (same ∙ sym (front-id u (has_front-put (record_after e (front v)) v l))) old (omega arith)
yard-event n k s v event.Good l t c f same old small next y =
    ap (good_move (is_standing_of s.front) (λ x. x.errors)) y
    ∙ yard-good_move n s.front v (same ∙ sym (front-id v l)) old (omega arith)
yard-event n k s v event.GiveUp l t c f same old small next y = yard-put_after n event.GiveUp s.front s.yard v l f same old (omega arith) y
yard-event n k s v (event.Mal at size) l t c f same old small next y =
    yard-put_after n (event.Mal at size) s.front s.yard v l f same old (omega arith) y
yard-event n k s v (event.Reap place) l t c f same old small next y =
    let id : ℕ = slice_index v.reaper place in
    ap (without_place place) y
    ∙ without_place-map (stands_as n v.living) place v.reaper
    ∙ ap (map (stands_as n v.living)) (without_place-filter place v.reaper c.0 (rw (t.reaper id) (t.once id)))
    ∙ map-filter-cong (stands_as n v.living) (stands_as n (without id v.living)) id
    (λ x other. ap (λ (o : Option Creature). let st : Standing = record (standing (unwrap_or o nobody)) { id = renamed n x } in st)
    (sym (find-without v.living x id other))) v.reaper
yard-event n k s v (event.Divide ran moved) l t c f same old small next y =
    let e : Event = (event.Divide ran moved) in
    let u : World = with_birth (genotypes_at_birth (front v) ran moved v.genotypes) (front v).daughter (front v).genotype v in
    let b = front-with_birth (genotypes_at_birth (front v) ran moved v.genotypes) (front v).daughter (front v).genotype v l in
    ap (λ (d : Option Block). with_standing (record_after e s.front) (with_newborn (k + 1) d s).yard) f.daughter
    ∙ yard-put_after n e s.front (with_newborn (k + 1) (front v).daughter s).yard u b.2 (subst (λ d. Shares d s.front) (sym b.1) f)
    (same ∙ sym b.0) old (omega arith)
    (yard-with_newborn n k s v (front v).daughter (front v).genotype (genotypes_at_birth (front v) ran moved v.genotypes) t next y)
    ∙ ap (λ (c : Creature). map (stands_as n (with_record (record_after e c) u.living)) u.reaper) b.1
