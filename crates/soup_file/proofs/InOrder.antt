-- Creatures read in order, each checked after those before it.
use Rattle.std.proofs.Common.{◌≡◌, ◌∙◌, ℕ, ◌+◌, ◌-◌, ◌<◌, ◌≤◌, List, [], ◌∷◌, ◌++◌, Option, Some, None, ap, ap₂, get_or, length, map, option_map, refl, subst}
use Rattle.std.proofs.Common.{sym, take, arith, length-append}
use Rattle.std.specs.Prelude.{flat_map, position}
use Rattle.std.specs.List.{enumerate_from}
use Rattle.std.proofs.lemmas.List.{get_or-map, length-map, map_push, take_all, take_more}
use Rattle.std.proofs.lemmas.List.FromFn.{get_or-enumerate_from, length-enumerate_from}
use Rattle.toml.specs.Data.{Members}
use Rattle.tierra_model.specs.declared.setups.Inoculum.{Inoculum}
use Rattle.soup_file.specs.declared.fault.FileFault.{FileFault}
use Rattle.soup_file.specs.declared.fault.FileFault.TheVariants.{Overlap}
use Rattle.soup_file.specs.Keys.{first_fault}
use Rattle.soup_file.specs.Creatures.{LieApart, all_creature_checks, checks_among, creature_checks, inocula_of, inoculum_of, overlap, own_checks, share_a_cell}
use Rattle.soup_file.proofs.Apart.{sharing}
use Rattle.soup_file.proofs.Checks.{failed-append, failed-at, none-more, passed-append}

-- the check of a creature against those before it
against : (size number : ℕ) (cs : List Inoculum) (t : Members) (c : Inoculum) → inoculum_of size (number, t) ≡ Some c
    → overlap number (map Some cs) (inoculum_of size (number, t)) ≡ option_map (λ place. Overlap (place + 1) number) (position (λ d. share_a_cell d c) cs)
against size number cs t c is =
    ap (overlap number (map Some cs)) is ∙ ap (option_map (λ place. Overlap (place + 1) number)) (sharing cs c)

pub passes-all : (size number : ℕ) (cs : List Inoculum) (t : Members) (c : Inoculum) → first_fault (own_checks size (number, t)) ≡ None
    → inoculum_of size (number, t) ≡ Some c → position (λ d. share_a_cell d c) cs ≡ None → first_fault (creature_checks size (map Some cs) (number, t)) ≡ None
passes-all size number cs t c own is none =
    passed-append (own_checks size (number, t)) (overlap number (map Some cs) (inoculum_of size (number, t)) ∷ []) own
    ∙ ap (λ check. first_fault (check ∷ [])) (against size number cs t c is ∙ ap (option_map (λ place. Overlap (place + 1) number)) none)

pub overlaps : (size number place : ℕ) (cs : List Inoculum) (t : Members) (c : Inoculum) → first_fault (own_checks size (number, t)) ≡ None
    → inoculum_of size (number, t) ≡ Some c → position (λ d. share_a_cell d c) cs ≡ Some place
    → first_fault (creature_checks size (map Some cs) (number, t)) ≡ Some (Overlap (place + 1) number)
overlaps size number place cs t c own is some =
    passed-append (own_checks size (number, t)) (overlap number (map Some cs) (inoculum_of size (number, t)) ∷ []) own
    ∙ ap (λ check. first_fault (check ∷ [])) (against size number cs t c is ∙ ap (option_map (λ place. Overlap (place + 1) number)) some)

pub faults-alone : (size number : ℕ) (cs : List Inoculum) (t : Members) (f : FileFault) → first_fault (own_checks size (number, t)) ≡ Some f
    → first_fault (creature_checks size (map Some cs) (number, t)) ≡ Some f
faults-alone size number cs t f own =
    failed-append (own_checks size (number, t)) (overlap number (map Some cs) (inoculum_of size (number, t)) ∷ []) f own

-- the creatures of the first tables were read, and passed all checks
pub record AreRead (size : ℕ) (ts : List Members) (i : ℕ) (cs : List Inoculum) : Type 0 where
  pub apart : LieApart size cs
  pub count : length cs ≡ i
  pub inocula : map Some cs ≡ take i (inocula_of size ts)
  pub passed : first_fault (flat_map (checks_among size ts) (take i (enumerate_from 1 ts))) ≡ None

numbered : (ts : List Members) (i : ℕ) (t : Members) → i < length ts → t ≡ get_or ts i t → (i + 1, t) ≡ get_or (enumerate_from 1 ts) i (i + 1, t)
numbered ts i t l e =
    let number : i + 1 ≡ 1 + i = omega arith in
    ap₂ (λ (n : ℕ) (m : Members). (n, m)) number e ∙ sym (get_or-enumerate_from 1 ts i (i + 1, t) l)

-- a creature's checks among all are its checks after those that were read
checks-here : (size : ℕ) (ts : List Members) (i : ℕ) (cs : List Inoculum) (t : Members) → AreRead size ts i cs
    → checks_among size ts (i + 1, t) ≡ creature_checks size (map Some cs) (length cs + 1, t)
checks-here size ts i cs t r =
    let back : i + 1 - 1 ≡ i = omega arith in
    ap (λ k. creature_checks size (take k (inocula_of size ts)) (i + 1, t)) back
    ∙ ap₂ (λ (before : List (Option Inoculum)) (n : ℕ). creature_checks size before (n + 1, t)) (sym r.inocula) (sym r.count)

pub read-none : (size : ℕ) (ts : List Members) → AreRead size ts 0 []
read-none size ts = record {
  apart = record { written = λ k d l. absurd (omega arith); placed = λ k d l. absurd (omega arith); apart = λ p. omega arith };
  count = refl;
  inocula = refl;
  passed = refl;
}

pub read-more : (size : ℕ) (ts : List Members) (i : ℕ) (cs new : List Inoculum) (t : Members) (c : Inoculum) → i < length ts → t ≡ get_or ts i t
    → AreRead size ts i cs → new ≡ cs ++ c ∷ [] → LieApart size new → inoculum_of size (length cs + 1, t) ≡ Some c
    → first_fault (creature_checks size (map Some cs) (length cs + 1, t)) ≡ None → AreRead size ts (i + 1) new
read-more size ts i cs new t c l e r same apart is passed =
    let es = enumerate_from 1 ts in
    let within : i < length es = subst (λ n. i < n) (sym (length-enumerate_from 1 ts)) l in
    let here = numbered ts i t l e in
    let this : get_or (inocula_of size ts) i (Some c) ≡ Some c =
    get_or-map (inoculum_of size) es i (i + 1, t) (Some c) within
    ∙ ap (inoculum_of size) (sym here)
    ∙ ap (λ n. inoculum_of size (n + 1, t)) (sym r.count)
    ∙ is in
    let within_inocula : i < length (inocula_of size ts) = subst (λ n. i < n) (sym (length-map es (inoculum_of size))) within in
    record {
      apart = apart;
      count = ap length same ∙ (let n = r.count in omega (arith, length-append cs (c ∷ [])));
      inocula = ap (map Some) same ∙ map_push Some cs c
          ∙ ap₂ (λ (before : List (Option Inoculum)) (x : Option Inoculum). before ++ x ∷ []) r.inocula (sym this)
          ∙ sym (take_more (inocula_of size ts) i (Some c) within_inocula);
      passed = none-more (checks_among size ts) es i (i + 1, t) within here r.passed (ap first_fault (checks-here size ts i cs t r) ∙ passed);
    }

pub read-fault : (size : ℕ) (ts : List Members) (i : ℕ) (cs : List Inoculum) (t : Members) (f : FileFault) → i < length ts → t ≡ get_or ts i t
    → AreRead size ts i cs → first_fault (creature_checks size (map Some cs) (length cs + 1, t)) ≡ Some f → first_fault (all_creature_checks size ts) ≡ Some f
read-fault size ts i cs t f l e r fault =
    let within : i < length (enumerate_from 1 ts) = subst (λ n. i < n) (sym (length-enumerate_from 1 ts)) l in
    failed-at (checks_among size ts) (enumerate_from 1 ts) i (i + 1, t) f within (numbered ts i t l e) r.passed
    (ap first_fault (checks-here size ts i cs t r) ∙ fault)

pub read-all : (size : ℕ) (ts : List Members) (i : ℕ) (cs : List Inoculum) → length ts ≤ i → AreRead size ts i cs
    → (map Some cs ≡ inocula_of size ts) × (first_fault (all_creature_checks size ts) ≡ None)
read-all size ts i cs l r =
    let es = enumerate_from 1 ts in
    let long : length es ≤ i = subst (λ n. n ≤ i) (sym (length-enumerate_from 1 ts)) l in (
      r.inocula ∙ take_all i (inocula_of size ts) (subst (λ n. n ≤ i) (sym (length-map es (inoculum_of size))) long),
      ap (λ xs. first_fault (flat_map (checks_among size ts) xs)) (sym (take_all i es long)) ∙ r.passed,
    )
