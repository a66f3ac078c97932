-- Where a block of a size is to go.
use Rattle.std.proofs.Common.{◌≡◌, ℕ, ◌*◌, ◌+◌, ◌≤◌, Bool, true, false, refl, sym, ◌∙◌, ap, arith}
use Rattle.std.specs.Prelude.{◌||◌, List, Option, None, nat_le}
use Rattle.std.proofs.Common.{subst}
use Rattle.quantum_run.specs.OnScene.{SceneFields, SceneReady}
use Rattle.tierra_model.specs.declared.creatures.Block.{Block}
use Rattle.tierra_model.specs.FreeList.{is_in_some, runs_of}
use Rattle.tierra_model.proofs.Free.{runs_of_in}
use Rattle.block_alloc.proofs.Owned.{runs_of-alike}
use Rattle.std.proofs.lemmas.Bool.Decides.{nat_tests}
use Rattle.tierra_model.specs.declared.parameters.Settings.{Settings}
use Rattle.tierra_model.specs.Room.{filled, first_fit, room_for}

pub room_is : (s : Settings) (owned : ℕ → Bool) (size n : ℕ) → n ≡ s.soup_size → (filled n owned + size) * 100 ≤ s.fill_percent * s.soup_size
    → first_fit n owned size ≡ room_for s owned size
room_is s owned size n e h =
    let here : (filled s.soup_size owned + size) * 100 ≤ s.fill_percent * s.soup_size = rw e at h in
    let fits : nat_le ((filled s.soup_size owned + size) * 100) (s.fill_percent * s.soup_size) ≡ true = grind (arith, nat_tests) in
    ap (λ (k : ℕ). first_fit k owned size) e
    ∙ sym (ap (λ (b : Bool). let o : Option ℕ = elim b [ true ↦ first_fit s.soup_size owned size | false ↦ None ] in o) fits)

-- ---- cells that come free in two steps

pub runs-again : (n : ℕ) (t : ℕ → Bool) (free : List Block) → free ≡ runs_of n t → free ≡ runs_of n (λ p. is_in_some free p)
runs-again n t free is =
    subst (λ (l : List Block). l ≡ runs_of n (λ p. is_in_some l p)) (sym is) (sym (runs_of-alike n (λ p. is_in_some (runs_of n t) p) t (runs_of_in n t)))

pub runs-both : (n : ℕ) (s t u : ℕ → Bool) (free : List Block) → free ≡ runs_of n (λ p. s p || t p)
    → runs_of n (λ p. is_in_some free p || u p) ≡ runs_of n (λ p. s p || (t p || u p))
runs-both n s t u free is =
    ap (λ (l : List Block). runs_of n (λ p. is_in_some l p || u p)) is
    ∙ runs_of-alike n (λ p. is_in_some (runs_of n (λ q. s q || t q)) p || u p) (λ p. s p || (t p || u p))
    (λ p h. ap (λ (b : Bool). b || u p) (runs_of_in n (λ q. s q || t q) p h) ∙ or-assoc (s p) (t p) (u p))
  where
    or-assoc : (a b c : Bool) → ((a || b) || c) ≡ (a || (b || c))
    or-assoc true b c = refl
    or-assoc false b c = refl

-- what is ready stays so with more room for standings
pub roomier : (v : SceneFields) (n room : ℕ) → v.yard_room ≤ room → SceneReady v n → SceneReady (record v { yard_room = room }) n
roomier v n room h r =
    record {
      shadows = r.shadows;
      size = r.size;
      cells = r.cells;
      marks = r.marks;
      known = r.known;
      own = r.own;
      daughter = r.daughter;
      yard = r.yard;
      reads = r.reads;
      front = r.front;
      newborns = r.newborns;
      few = r.few;
      events_room = r.events_room;
      yard_room = omega (arith, h, r.yard_room);
      blocks_room = r.blocks_room;
    }
