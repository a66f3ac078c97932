-- Two machines that agree at each operation agree over a quantum, as far as what they noted agrees.
use Rattle.std.proofs.Common.{◌≡◌, ℕ, zero, suc, ◌+◌, ◌*◌, ◌/◌, ◌<◌, ◌≤◌, Bool, true, false, refl, sym, ◌∙◌, ap, subst, arith, length}
use Rattle.std.specs.Prelude.{Some, None, Option, IsSome, is_some}
use Rattle.tierra_model.specs.declared.limits.TheConstants.{MOST_SIZE}
use Rattle.tierra_model.specs.declared.parameters.Settings.{Settings}
use Rattle.tierra_model.specs.declared.creatures.Block.{Block}
use Rattle.tierra_model.specs.declared.creatures.Creature.{Creature}
use Rattle.tierra_model.specs.declared.events.Event.{Event}
use Rattle.tierra_model.specs.declared.events.Event.TheVariants as event
use Rattle.tierra_model.specs.declared.events.Act.{Act}
use Rattle.tierra_model.specs.declared.events.Act.TheVariants as act
use Rattle.tierra_model.specs.Look.{Look, Answer, LookAt}
use Rattle.tierra_model.specs.Draw.{word, back_flip}
use Rattle.tierra_model.specs.Queue.{number_of_others}
use Rattle.tierra_model.specs.Quantum.{Machine, walk, give_up, take_block, victim, reap_at, reap, make_room, mal, perform, settle, instruction, instructions}
use Rattle.tierra_model.specs.Quantum.{flip, reap_times, disturb, is_disturbed, run}
use Rattle.tierra_model.specs.Step.{step, Outcome, flip_bit}
use Rattle.tierra_model.specs.Room.{room_for}
use Rattle.tierra_model.specs.Events.{record_after}
use Rattle.tierra_model.proofs.Shares.{Shares}
use Rattle.tierra_model.proofs.Free.{AlikeBelow, room_for-alike}
use Rattle.tierra_model.proofs.Records.{flipped_below, Keeps, CanDo, Always, step_keeps}
use Rattle.tierra_model.proofs.AnyMachine.{room-some, room-none_zero, room-none_suc, FlipOf, back_flip_of}
use Rattle.tierra_model.proofs.Operations.{EachOperation, each-reap, each-make_room, each-mal, each-perform, each-walk, each-instructions, each-reap_times}
use Rattle.tierra_model.proofs.Operations.{each-disturb}

-- an operation makes nothing true that was not
abbrev pub Back : {S : Type 0} → (S → Type 0) → S → S → Type 0
Back A x y = A y → A x

-- what holds where an event is done; Free and Yard say that both machines have the same free cells, and the same list
abbrev pub IsDone : {S : Type 0} → Machine S → Settings → Type 0 → Type 0 → S → Event → Type 0
IsDone P s Free Yard x (event.Write at value) = (at < s.soup_size) × (value < 32)
IsDone P s Free Yard x event.Err = Unit {0}
IsDone P s Free Yard x event.Good = Unit {0}
IsDone P s Free Yard x event.GiveUp = IsSome (P.front x).daughter
IsDone P s Free Yard x (event.Mal at size) =
    (1 ≤ size) × (size ≤ MOST_SIZE) × Free × ((P.front x).daughter ≡ None) × (room_for s (P.owned x) size ≡ Some at)
IsDone P s Free Yard x (event.Reap place) = Yard × (victim P s x ≡ Some place)
IsDone P s Free Yard x (event.Divide ran moved) = IsSome (P.front x).daughter × (1 ≤ ran)

-- The machines agree at each operation, where F says that a state of the first stands for one of the second, and A and B
-- that what each has noted agrees with the other.
pub record Simulates {S T : Type 0} (P : Machine S) (Q : Machine T) (s : Settings) (F : S → T → Type 0) (A : S → Type 0) (B : T → Type 0)
    (Free Yard : Type 0) : Type 0 where
  pub first : EachOperation P (Back A)
  pub second : EachOperation Q (Back B)
  -- the record of the first machine
  pub front_put : (c : Creature) (x : S) → P.front (P.put c x) ≡ c
  pub front_look : (p : ℕ) (x : S) → P.front (P.look x p) ≡ P.front x
  pub front_ask_free : (x : S) → P.front (P.ask_free x) ≡ P.front x
  pub front_ask_reaper : (x : S) → P.front (P.ask_reaper x) ≡ P.front x
  pub front_apply : (e : Event) (x : S) → P.front (P.apply x e) ≡ record_after e (P.front x)
  -- each operation
  pub front : (x : S) (y : T) → F x y → Q.front y ≡ P.front x
  pub put : (c : Creature) (x : S) (y : T) → F x y → Shares (P.front x) c → F (P.put c x) (Q.put c y)
  pub below : (p : ℕ) (x : S) (y : T) → F x y → Q.cell y p < 32
  pub look : (p : ℕ) (x : S) (y : T) → F x y → A (P.look x p) → B (Q.look y p) → (Q.cell y p ≡ P.cell x p) × F (P.look x p) (Q.look y p)
  pub ask_free : (x : S) (y : T) → F x y → F (P.ask_free x) (Q.ask_free y)
  pub free : (x : S) (y : T) → F x y → A (P.ask_free x) → B (Q.ask_free y) → Free
  pub owned : (x : S) (y : T) → F x y → Free → AlikeBelow s.soup_size (P.owned x) (Q.owned y)
  pub ask_reaper : (x : S) (y : T) → F x y → F (P.ask_reaper x) (Q.ask_reaper y)
  pub yard : (x : S) (y : T) → F x y → A (P.ask_reaper x) → B (Q.ask_reaper y) → Yard
  pub victim : (x : S) (y : T) → F x y → Yard → victim P s x ≡ victim Q s y
  pub others : (x : S) (y : T) → F x y → Yard → number_of_others (P.front x).id (P.reaper x) ≡ number_of_others (Q.front y).id (Q.reaper y)
  pub number : (x : S) (y : T) → F x y → Yard → length (P.reaper x) ≡ length (Q.reaper y)
  pub apply : (e : Event) (x : S) (y : T) → F x y → IsDone P s Free Yard x e → F (P.apply x e) (Q.apply y e)

-- where there is no room, the list is asked for
asked : {S : Type 0} (P : Machine S) (s : Settings) (A : S → Type 0) (o : EachOperation P (Back A)) (size n : ℕ) (x : S)
    → room_for s (P.owned x) size ≡ None → A (make_room P s size n x) → A (P.ask_reaper x)
asked P s A o size zero x e a = o.apply event.Err (P.ask_reaper x) (subst A (room-none_zero P s size x e) a)
asked P s A o size (suc n) x e a =
    each-reap P s (Back A) o x (each-make_room P s (Back A) o size n (reap P s x) (subst A (room-none_suc P s size n x e) a))

module _ {S T : Type 0} (P : Machine S) (Q : Machine T) (s : Settings) (F : S → T → Type 0) (A : S → Type 0) (B : T → Type 0) (Free Yard : Type 0)
    (m : Simulates P Q s F A B Free Yard) where
  -- ---- looks

  -- a walk gives the same answer in both
  same-walk : {C : Type 0} (K : C → Type 0) (t : Look C) (x : S) (y : T) → F x y → Always K t → A (walk P s t x).0 → B (walk Q s t y).0
      → F (walk P s t x).0 (walk Q s t y).0 × ((walk Q s t y).1 ≡ (walk P s t x).1) × K (walk P s t x).1
  same-walk K (Answer c) x y f k a b = (f, refl, k)
  same-walk K (LookAt p next) x y f k a b =
      let l = m.look p x y f (each-walk P s (Back A) m.first (next (P.cell x p)) (P.look x p) a)
      (each-walk Q s (Back B) m.second (next (Q.cell y p)) (Q.look y p) b) in
      subst (λ v. B (walk Q s (next v) (Q.look y p)).0
      → F (walk P s (next (P.cell x p)) (P.look x p)).0 (walk Q s (next v) (Q.look y p)).0
      × ((walk Q s (next v) (Q.look y p)).1 ≡ (walk P s (next (P.cell x p)) (P.look x p)).1) × K (walk P s (next (P.cell x p)) (P.look x p)).1)
      (sym l.0)
      (λ c. same-walk K (next (P.cell x p)) (P.look x p) (Q.look y p) l.1 (k (P.cell x p) (subst (λ v. v < 32) l.0 (m.below p x y f))) a c)
      b

  front-walk : {C : Type 0} (t : Look C) (x : S) → P.front (walk P s t x).0 ≡ P.front x
  front-walk (Answer c) x = refl
  front-walk (LookAt p next) x = front-walk (next (P.cell x p)) (P.look x p) ∙ m.front_look p x

  -- ---- room

  same-reap_at : (k : Option ℕ) (x : S) (y : T) → victim P s x ≡ k → F x y → Yard → F (reap_at P s k x) (reap_at Q s k y)
  same-reap_at None x y e f h = f
  same-reap_at (Some k) x y e f h = m.apply (event.Reap k) x y f (h, e)

  same-reap : (x : S) (y : T) → F x y → Yard → F (reap P s x) (reap Q s y)
  same-reap x y f h =
      let u : S = P.ask_reaper x in
      let v : T = Q.ask_reaper y in
      let g : F u v = m.ask_reaper x y f in
      subst (λ k. F (reap_at P s (victim P s u) u) (reap_at Q s k v)) (m.victim u v g h) (same-reap_at (victim P s u) u v refl g h)

  front-reap_at : (k : Option ℕ) (x : S) → P.front (reap_at P s k x) ≡ P.front x
  front-reap_at None x = refl
  front-reap_at (Some k) x = m.front_apply (event.Reap k) x

  front-reap : (x : S) → P.front (reap P s x) ≡ P.front x
  front-reap x = front-reap_at (victim P s (P.ask_reaper x)) (P.ask_reaper x) ∙ m.front_ask_reaper x

  -- what a mal has while it makes room
  abbrev Asks : ℕ → S → T → Type 0
  Asks size x y = (1 ≤ size) × (size ≤ MOST_SIZE) × F x y × Free × ((P.front x).daughter ≡ None)

  same-room_for : (size : ℕ) (x : S) (y : T) → Asks size x y → room_for s (Q.owned y) size ≡ room_for s (P.owned x) size
  same-room_for size x y q = sym (room_for-alike s (P.owned x) (Q.owned y) size q.0 (m.owned x y q.2 q.3))

  abbrev SameRoom : ℕ → ℕ → ℕ → S → T → Type 0
  SameRoom size n k x y = F (make_room P s size n x) (make_room Q s size k y)

  some-room : (size n k at : ℕ) (x : S) (y : T) → Asks size x y → room_for s (P.owned x) size ≡ Some at → SameRoom size n k x y
  some-room size n k at x y q e =
      subst (λ u. F u (make_room Q s size k y)) (sym (room-some P s size n at x e))
      (subst (λ v. F (take_block P s size at x) v) (sym (room-some Q s size k at y (same-room_for size x y q ∙ e)))
      (m.apply event.Good (P.apply x (event.Mal at size)) (Q.apply y (event.Mal at size))
      (m.apply (event.Mal at size) x y q.2 (q.0, q.1, q.3, q.4, e)) tt))

  -- nobody is left
  nobody-room : (size : ℕ) (x : S) (y : T) → Asks size x y → room_for s (P.owned x) size ≡ None → SameRoom size zero zero x y
  nobody-room size x y q e =
      subst (λ u. F u (make_room Q s size zero y)) (sym (room-none_zero P s size x e))
      (subst (λ v. F (P.apply (P.ask_reaper x) event.Err) v) (sym (room-none_zero Q s size y (same-room_for size x y q ∙ e)))
      (m.apply event.Err (P.ask_reaper x) (Q.ask_reaper y) (m.ask_reaper x y q.2) tt))

  abbrev Rooms : ℕ → ℕ → Type 0
  Rooms size n = (x : S) (y : T) → Asks size x y → A (make_room P s size n x) → B (make_room Q s size n y) → SameRoom size n n x y

  -- the first other creature dies
  reaping-room : (size n : ℕ) (x : S) (y : T) → Asks size x y → Yard → room_for s (P.owned x) size ≡ None
      → A (make_room P s size (suc n) x) → B (make_room Q s size (suc n) y) → Rooms size n → SameRoom size (suc n) (suc n) x y
  reaping-room size n x y q h e a b more =
      let first = room-none_suc P s size n x e in
      let second = room-none_suc Q s size n y (same-room_for size x y q ∙ e) in
      subst (λ u. F u (make_room Q s size (suc n) y)) (sym first)
      (subst (λ v. F (make_room P s size n (reap P s x)) v) (sym second)
      (more (reap P s x) (reap Q s y) (q.0, q.1, same-reap x y q.2 h, q.3, ap (λ (c : Creature). c.daughter) (front-reap x) ∙ q.4)
      (subst A first a) (subst B second b)))

  -- the two may count how many are left from lists that differ, unless the list is asked for
  counted-room : (size n k : ℕ) (x : S) (y : T) → Asks size x y → (Yard → n ≡ k) → A (make_room P s size n x) → B (make_room Q s size k y)
      → (Yard → room_for s (P.owned x) size ≡ None → B (make_room Q s size n y) → SameRoom size n n x y) → SameRoom size n k x y
  counted-room size n k x y q same a b more = go (room_for s (P.owned x) size) refl
    where
      go : (o : Option ℕ) → room_for s (P.owned x) size ≡ o → SameRoom size n k x y
      go (Some at) e = some-room size n k at x y q e
      go None e =
          let h : Yard = m.yard x y q.2 (asked P s A m.first size n x e a) (asked Q s B m.second size k y (same-room_for size x y q ∙ e) b) in
          subst (λ j. B (make_room Q s size j y) → SameRoom size n j x y) (same h) (more h e) b

  same-make_room : (size n k : ℕ) (x : S) (y : T) → Asks size x y → (Yard → n ≡ k) → A (make_room P s size n x) → B (make_room Q s size k y)
      → SameRoom size n k x y
  same-make_room size zero k x y q same a b = counted-room size zero k x y q same a b (λ h e c. nobody-room size x y q e)
  same-make_room size (suc n) k x y q same a b =
      counted-room size (suc n) k x y q same a b (λ h e c. reaping-room size n x y q h e a c (λ u v r d g. same-make_room size n n u v r (λ _. refl) d g))

  -- ---- mal

  none-give_up : (x : S) → (P.front (give_up P s x)).daughter ≡ None
  none-give_up x = go (P.front x).daughter refl
    where
      go : (d : Option Block) → (P.front x).daughter ≡ d → (P.front (elim d [ None ↦ x | Some b ↦ P.apply x event.GiveUp ])).daughter ≡ None
      go None e = e
      go (Some b) e = ap (λ (c : Creature). c.daughter) (m.front_apply event.GiveUp x)

  same-give_up : (x : S) (y : T) → F x y → F (give_up P s x) (give_up Q s y)
  same-give_up x y f =
      subst (λ (c : Creature). F (give_up P s x) (elim c.daughter [ None ↦ y | Some b ↦ Q.apply y event.GiveUp ])) (sym (m.front x y f))
      (go (P.front x).daughter refl)
    where
      go : (d : Option Block) → (P.front x).daughter ≡ d
          → F (elim d [ None ↦ x | Some b ↦ P.apply x event.GiveUp ]) (elim d [ None ↦ y | Some b ↦ Q.apply y event.GiveUp ])
      go None e = f
      go (Some b) e = m.apply event.GiveUp x y f (ap (λ (d : Option Block). is_some d) e)

  same-mal : (size : ℕ) (x : S) (y : T) → 1 ≤ size → size ≤ MOST_SIZE → F x y → A (mal P s size x) → B (mal Q s size y) → F (mal P s size x) (mal Q s size y)
  same-mal size x y one few f a b =
      let h : Free = m.free x y f (each-mal P s (Back A) m.first size x a) (each-mal Q s (Back B) m.second size y b) in
      let u : S = give_up P s (P.ask_free x) in
      let v : T = give_up Q s (Q.ask_free y) in
      let g : F u v = same-give_up (P.ask_free x) (Q.ask_free y) (m.ask_free x y f) in
      same-make_room size (number_of_others (P.front u).id (P.reaper u)) (number_of_others (Q.front v).id (Q.reaper v)) u v
      (one, few, g, h, none-give_up (P.ask_free x)) (m.others u v g) a b

  -- ---- instructions

  same-perform : (act : Act) (x : S) (y : T) → CanDo s (P.front x) act → F x y → A (perform P s act x) → B (perform Q s act y)
      → F (perform P s act x) (perform Q s act y)
  same-perform act.Plain x y c f a b = f
  same-perform (act.Wrote at value) x y c f a b = m.apply (event.Write at value) x y f c
  same-perform act.Erred x y c f a b = m.apply event.Err x y f tt
  same-perform (act.Mal size) x y c f a b = same-mal size x y c.0 c.1 f a b
  same-perform act.Divide x y c f a b =
      subst (λ (d : Creature). F (P.apply (P.apply x event.Good) (event.Divide (P.front x).ran (P.front x).moved))
      (Q.apply (Q.apply y event.Good) (event.Divide d.ran d.moved)))
      (sym (m.front x y f))
      (m.apply (event.Divide (P.front x).ran (P.front x).moved) (P.apply x event.Good) (Q.apply y event.Good) (m.apply event.Good x y f tt)
      (subst (λ (d : Creature). IsSome d.daughter) (sym (m.front_apply event.Good x)) c.0, c.1))

  same-settle : (t : Look Outcome) (x : S) (y : T) → Always (Keeps s (P.front x)) t → F x y
      → A (settle P s (walk P s t x)) → B (settle Q s (walk Q s t y)) → F (settle P s (walk P s t x)) (settle Q s (walk Q s t y))
  same-settle t x y k f a b =
      let r : S × Outcome = walk P s t x in
      let q : T × Outcome = walk Q s t y in
      let u : S = P.put r.1.0 r.0 in
      let w = same-walk (Keeps s (P.front x)) t x y f k
      (m.first.put r.1.0 r.0 (each-perform P s (Back A) m.first r.1.1 u a))
      (m.second.put q.1.0 q.0 (each-perform Q s (Back B) m.second q.1.1 (Q.put q.1.0 q.0) b)) in
      let shares : Shares (P.front r.0) r.1.0 = subst (λ c. Shares c r.1.0) (sym (front-walk t x)) w.2.0 in
      subst (λ (o : Outcome). B (perform Q s o.1 (Q.put o.0 q.0)) → F (perform P s r.1.1 u) (perform Q s o.1 (Q.put o.0 q.0))) (sym w.1)
      (λ c. same-perform r.1.1 u (Q.put r.1.0 q.0) (subst (λ d. CanDo s d r.1.1) (sym (m.front_put r.1.0 r.0)) w.2.1) (m.put r.1.0 r.0 q.0 w.0 shares) a c) b

  same-instruction : (draw : ℕ → ℕ) (i : ℕ) (x : S) (y : T) → F x y → A (instruction P s draw i x) → B (instruction Q s draw i y)
      → F (instruction P s draw i x) (instruction Q s draw i y)
  unfolding instruction
  same-instruction draw i x y f a b =
      let t : Look Outcome = step s draw i (P.front x) in
      subst (λ (c : Creature). B (settle Q s (walk Q s (step s draw i c) y)) → F (settle P s (walk P s t x)) (settle Q s (walk Q s (step s draw i c) y)))
      (sym (m.front x y f))
      (λ d. same-settle t x y
      (step_keeps s draw i (P.front x) (P.front x) (record { id = refl; own = refl; daughter = refl; errors = refl; genotype = refl; bred = refl })) f a d)
      b

  same-instructions : (draw : ℕ → ℕ) (k i : ℕ) (x : S) (y : T) → F x y → A (instructions P s draw k i x) → B (instructions Q s draw k i y)
      → F (instructions P s draw k i x) (instructions Q s draw k i y)
  unfolding instructions
  same-instructions draw zero i x y f a b = f
  same-instructions draw (suc k) i x y f a b =
      let u : S = instruction P s draw i x in
      let v : T = instruction Q s draw i y in
      same-instructions draw k (i + 1) u v
      (same-instruction draw i x y f (each-instructions P s (Back A) m.first draw k (i + 1) u a) (each-instructions Q s (Back B) m.second draw k (i + 1) v b))
      a b

  -- ---- a quantum

  same-flip : (bit : Option (ℕ × ℕ)) (x : S) (y : T) → FlipOf s.soup_size bit → F x y → A (flip P s bit x) → B (flip Q s bit y)
      → F (flip P s bit x) (flip Q s bit y)
  same-flip None x y h f a b = f
  same-flip (Some c) x y h f a b =
      let e : ℕ → Event = λ v. event.Write c.0 (flip_bit v (Some c.1)) in
      let l = m.look c.0 x y f (m.first.apply (e (P.cell x c.0)) (P.look x c.0) a) (m.second.apply (e (Q.cell y c.0)) (Q.look y c.0) b) in
      subst (λ v. F (P.apply (P.look x c.0) (e (P.cell x c.0))) (Q.apply (Q.look y c.0) (e v))) (sym l.0)
      (m.apply (e (P.cell x c.0)) (P.look x c.0) (Q.look y c.0) l.1
      (h.0, flipped_below (P.cell x c.0) (Some c.1) (subst (λ v. v < 32) l.0 (m.below c.0 x y f)) h.1))

  same-reap_times : (k : ℕ) (x : S) (y : T) → F x y → Yard → F (reap_times P s k x) (reap_times Q s k y)
  same-reap_times zero x y f h = f
  same-reap_times (suc k) x y f h =
      subst (λ o. F (reap_times P s (suc k) x) (elim o [ None ↦ y | Some p ↦ reap_times Q s k (Q.apply y (event.Reap p)) ])) (m.victim x y f h)
      (go (victim P s x) refl (λ u v g. same-reap_times k u v g h))
    where
      go : (o : Option ℕ) → victim P s x ≡ o → ((u : S) (v : T) → F u v → F (reap_times P s k u) (reap_times Q s k v))
          → F (elim o [ None ↦ x | Some p ↦ reap_times P s k (P.apply x (event.Reap p)) ])
          (elim o [ None ↦ y | Some p ↦ reap_times Q s k (Q.apply y (event.Reap p)) ])
      go None e ih = f
      go (Some p) e ih = ih (P.apply x (event.Reap p)) (Q.apply y (event.Reap p)) (m.apply (event.Reap p) x y f (h, e))

  same-disturb : (due : Bool) (x : S) (y : T) → F x y → A (disturb P s due x) → B (disturb Q s due y) → F (disturb P s due x) (disturb Q s due y)
  same-disturb false x y f a b = f
  same-disturb true x y f a b =
      let u : S = P.ask_reaper x in
      let v : T = Q.ask_reaper y in
      let g : F u v = m.ask_reaper x y f in
      let n : ℕ → ℕ = λ l. l * s.dist_percent / 100 in
      let h : Yard = m.yard x y f (each-reap_times P s (Back A) m.first (n (length (P.reaper u))) u a)
      (each-reap_times Q s (Back B) m.second (n (length (Q.reaper v))) v b) in
      subst (λ l. F (reap_times P s (n (length (P.reaper u))) u) (reap_times Q s (n l) v)) (m.number u v g h)
      (same-reap_times (n (length (P.reaper u))) u v g h)

  pub same-run : (q k : ℕ) (x : S) (y : T) → F x y → A (run P s q k x) → B (run Q s q k y) → F (run P s q k x) (run Q s q k y)
  unfolding run
  same-run q k x y f a b =
      let draw : ℕ → ℕ = word s.seed q in
      let bit : Option (ℕ × ℕ) = back_flip s.back_rate draw s.soup_size in
      let due : Bool = is_disturbed s.dist_every q in
      let x1 : S = flip P s bit x in
      let y1 : T = flip Q s bit y in
      let x2 : S = disturb P s due x1 in
      let y2 : T = disturb Q s due y1 in
      let a2 : A x2 = each-instructions P s (Back A) m.first draw k 0 x2 a in
      let b2 : B y2 = each-instructions Q s (Back B) m.second draw k 0 y2 b in
      let a1 : A x1 = each-disturb P s (Back A) m.first due x1 a2 in
      let b1 : B y1 = each-disturb Q s (Back B) m.second due y1 b2 in
      same-instructions draw k 0 x2 y2
      (same-disturb due x1 y1 (same-flip bit x y (back_flip_of s.back_rate draw s.soup_size (omega (arith, s.soup))) f a1 b1) a2 b2) a b
