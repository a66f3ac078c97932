-- One who comes to the others.
use Rattle.std.proofs.Common.{◌≡◌, ℕ, ◌+◌, ◌-◌, ◌<◌, ◌≤◌, Bool, true, false, List, [], ◌∷◌, ◌++◌, refl, sym, ◌∙◌, ap, arith, length, length-append, subst, suc}
use Rattle.std.proofs.Common.{take, drop, drop-cons, get_or}
use Rattle.std.specs.Prelude.{All, Some, not, ◌||◌, ◌&&◌}
use Rattle.std.proofs.lemmas.Bool.Decides.{nat_tests}
use Rattle.std.proofs.lemmas.List.{take-append-drop, take_more}
use Rattle.std.proofs.lemmas.List.Elements.{All-get_or, All-push}
use Rattle.tierra_model.specs.declared.creatures.Block.{Block}
use Rattle.tierra_model.specs.declared.parameters.Settings.{Settings}
use Rattle.tierra_model.specs.declared.setups.Inoculum.{Inoculum}
use Rattle.tierra_model.specs.Blocks.{is_in}
use Rattle.tierra_model.specs.Counting.{one_if, sum_of}
use Rattle.tierra_model.specs.FreeList.{is_in_some, runs_of}
use Rattle.tierra_model.specs.Ranges.{IsCode}
use Rattle.tierra_model.specs.Room.{first_fit}
use Rattle.tierra_model.specs.Setups.{IsSetup, block_of}
use Rattle.tierra_model.proofs.Free.{fit_from_free}
use Rattle.tierra_model.proofs.Owners.{sum_of-append}
use Rattle.world_core.proofs.Ownership.{regroup}
use Rattle.block_alloc.proofs.Owned.{runs_of-alike, taken-runs_of}
use Rattle.soup_isles.specs.Isles.{is_settled}

-- how many of the creatures' blocks have the cell
abbrev pub settled : List Inoculum → ℕ → ℕ
settled creatures p = sum_of (λ c. one_if (is_in (block_of c) p)) creatures

settled-case : (cs : List Inoculum) (b : Bool) (p : ℕ) → (is_settled cs p ≡ false → settled cs p ≡ 0) → (b || is_settled cs p) ≡ false
    → one_if b + settled cs p ≡ 0
settled-case cs true p rest h = (let no : true ≡ false = h in cc)
settled-case cs false p rest h = omega (arith, rest h)

pub settled-none : (creatures : List Inoculum) (p : ℕ) → is_settled creatures p ≡ false → settled creatures p ≡ 0
settled-none [] p h = refl
settled-none (c ∷ cs) p h = settled-case cs (is_in (block_of c) p) p (settled-none cs p) h

none-case : (cs : List Inoculum) (b : Bool) (p : ℕ) → (settled cs p ≡ 0 → is_settled cs p ≡ false) → one_if b + settled cs p ≡ 0
    → (b || is_settled cs p) ≡ false
none-case cs true p rest h = absurd (omega arith)
none-case cs false p rest h = rest (omega arith)

pub none-settled : (creatures : List Inoculum) (p : ℕ) → settled creatures p ≡ 0 → is_settled creatures p ≡ false
none-settled [] p h = refl
none-settled (c ∷ cs) p h = none-case cs (is_in (block_of c) p) p (none-settled cs p) h

-- one more at the end
pub settled-more : (creatures : List Inoculum) (c : Inoculum) (p : ℕ) → is_settled (creatures ++ c ∷ []) p ≡ (is_settled creatures p || is_in (block_of c) p)
settled-more [] c p = grind (arith, nat_tests)
settled-more (x ∷ xs) c p =
    ap (λ (b : Bool). is_in (block_of x) p || b) (settled-more xs c p)
    ∙ sym (regroup (is_in (block_of x) p) (is_settled xs p) (is_in (block_of c) p))

-- the one who comes is beside the others
beside : (o : ℕ) (b : Bool) → o ≤ 1 → (b ≡ true → o ≡ 0) → o + (one_if b + 0) ≤ 1
beside o true few none = (let z : o ≡ 0 = none refl in omega arith)
beside o false few none = omega arith

in-block : (b : Block) (p : ℕ) → is_in b p ≡ true → (b.at ≤ p) × (p < b.at + b.size)
in-block b p h = grind (arith, nat_tests)

pub joined-setup : (s : Settings) (creatures : List Inoculum) (code : List ℕ) (at : ℕ) → IsSetup (record { settings = s; creatures = creatures }) → IsCode code
    → first_fit s.soup_size (is_settled creatures) (length code) ≡ Some at
    → IsSetup (record { settings = s; creatures = creatures ++ record { at = at; code = code } ∷ [] })
joined-setup s creatures code at setup is_code fit =
    let c : Inoculum = record { at = at; code = code } in
    let room = fit_from_free (is_settled creatures) (length code) 0 (s.soup_size + 1 - length code) at fit in
    record {
      some = omega (arith, length-append creatures (c ∷ []), setup.some);
      written = All-push (λ x. IsCode x.code) creatures c setup.written is_code;
      placed = All-push (λ x. x.at + length x.code ≤ s.soup_size) creatures c setup.placed (omega (arith, room.0));
      apart = λ p. (let few = setup.apart p in
          let all = sum_of-append (λ x. one_if (is_in (block_of x) p)) creatures (c ∷ []) in
          let most = beside (settled creatures p) (is_in (block_of c) p) few
          (λ here. settled-none creatures p (room.1 p (in-block (block_of c) p here).0 (in-block (block_of c) p here).1)) in
          omega arith);
    }

-- the same creatures under settings with as many cells
pub setup-under : (s t : Settings) (creatures : List Inoculum) → s.soup_size ≡ t.soup_size
    → IsSetup (record { settings = s; creatures = creatures }) → IsSetup (record { settings = t; creatures = creatures })
setup-under s t creatures same setup =
    record {
      some = setup.some;
      written = setup.written;
      placed = subst (λ (n : ℕ). All (λ c. c.at + length c.code ≤ n) creatures) same setup.placed;
      apart = setup.apart;
    }

-- ---- the blocks of creatures, one after another

split : (xs : List Inoculum) (i : ℕ) (x : Inoculum) → i < length xs → x ≡ get_or xs i x → drop i xs ≡ x ∷ drop (i + 1) xs
split xs i x h e = drop-cons xs i x h ∙ (λ j. (sym e j) ∷ drop (next j) xs)
  where
    next : suc i ≡ i + 1
    next = omega arith

-- the cells of the next block are in the soup and in nobody's block so far
pub still-free : (s : Settings) (xs : List Inoculum) (i : ℕ) (x : Inoculum) (p : ℕ) → IsSetup (record { settings = s; creatures = xs })
    → i < length xs → x ≡ get_or xs i x → is_in (block_of x) p ≡ true → (p < s.soup_size) × (is_settled (take i xs) p ≡ false)
still-free s xs i x p setup h e here =
    let all : settled xs p ≡ settled (take i xs) p + settled (x ∷ drop (i + 1) xs) p
    = ap (λ (l : List Inoculum). settled l p) (sym (take-append-drop i xs)) ∙ sum_of-append (λ c. one_if (is_in (block_of c) p)) (take i xs) (drop i xs)
    ∙ ap (λ (l : List Inoculum). settled (take i xs) p + settled l p) (split xs i x h e) in
    let one : one_if (is_in (block_of x) p) ≡ 1 = ap one_if here in
    let few : settled xs p ≤ 1 = setup.apart p in
    let lies : x.at + length x.code ≤ s.soup_size
    = subst (λ (c : Inoculum). c.at + length c.code ≤ s.soup_size) (sym e) (All-get_or (λ c. c.at + length c.code ≤ s.soup_size) xs i x h setup.placed) in
    let inside = in-block (block_of x) p here in (
      omega (arith, inside.1, lies),
      none-settled (take i xs) p (omega arith),
    )

-- the free cells after the next block is taken
pub taken-next : (n : ℕ) (xs : List Inoculum) (i : ℕ) (x : Inoculum) → i < length xs → x ≡ get_or xs i x
    → runs_of n (λ p. is_in_some (runs_of n (λ p. not (is_settled (take i xs) p))) p && not (is_in (block_of x) p))
    ≡ runs_of n (λ p. not (is_settled (take (i + 1) xs) p))
taken-next n xs i x h e =
    taken-runs_of n (is_settled (take i xs)) (block_of x)
    ∙ runs_of-alike n (λ p. not (is_settled (take i xs) p || is_in (block_of x) p)) (λ p. not (is_settled (take (i + 1) xs) p)) (λ q below.
    ap not (sym (settled-more (take i xs) x q) ∙ ap (λ (l : List Inoculum). is_settled l q)
    (sym (take_more xs i x h ∙ ap (λ (c : Inoculum). take i xs ++ c ∷ []) (sym e)))))
