-- Reading the template, and then trying the candidates.
use Rattle.std.proofs.Common.{◌≡◌, ℕ, ◌+◌, ◌%◌, ◌<◌, ◌≤◌, Bool, true, false, List, sym, ◌∙◌, ap, arith, length}
use Rattle.std.specs.Prelude.{nat_lt, if◌then◌else◌, Option}
use Rattle.std.proofs.Math.Nat.{mod-mod}
use Rattle.std.proofs.lemmas.Bool.Decides.{nat_tests}
use Rattle.tierra_model.specs.declared.searching.Found.{Found}
use Rattle.tierra_model.specs.declared.searching.Found.TheVariants as found
use Rattle.tierra_model.specs.declared.searching.Way.{Way}
use Rattle.tierra_model.specs.Look.{Answer, Look, ◌>>=◌, pass, Passes}
use Rattle.tierra_model.specs.Search.{read_template, try_each, candidates, search_from, search_for, found_at}
use Rattle.template_search.proofs.Passing.{passes-bind}
use Rattle.template_search.proofs.Reading.{read_template-place}

module _ {S : Type 0} (cells : S → ℕ → ℕ) (looked : S → ℕ → S) (n ip : ℕ) (way : Way) (limit min start : ℕ) (vs : List ℕ) (s0 s1 : S)
    (from : start ≡ (ip + 1) % n) (read : Passes cells looked (read_template n 10 start) s0 s1 vs) where
  -- the template was read, and the rest of the search is left
  abbrev after : Bool → Look Found
  after b =
      if b then Answer found.Short
      else try_each n vs (candidates n ip (length vs) way limit 1) >>= (λ p. Answer (found_at n (length vs) p))

  template_read : (b : Bool) → nat_lt (length vs) min ≡ b → pass cells looked (search_for n ip way limit min) s0 ≡ pass cells looked (after b) s1
  unfolding search_for search_from
  template_read b e =
      let there : start % n ≡ (ip + 1) % n = ap (λ (p : ℕ). p % n) from ∙ mod-mod (ip + 1) n in
      let whole : Passes cells looked (read_template n 10 (ip + 1)) s0 s1 vs =
      ap (λ t. pass cells looked t s0) (sym (read_template-place n 10 start (ip + 1) there)) ∙ read in
      passes-bind cells looked (read_template n 10 (ip + 1)) (search_from n ip way limit min) s0 s1 vs whole
      ∙ ap (λ (m : Bool). pass cells looked (after m) s1) e

  pub is_short : length vs < min → Passes cells looked (search_for n ip way limit min) s0 s1 found.Short
  is_short h = template_read true (grind (arith, nat_tests))

  pub is_tried : (u : S) (o : Option ℕ) → min ≤ length vs → Passes cells looked (try_each n vs (candidates n ip (length vs) way limit 1)) s1 u o
      → Passes cells looked (search_for n ip way limit min) s0 u (found_at n (length vs) o)
  is_tried u o h e =
      template_read false (grind (arith, nat_tests))
      ∙ passes-bind cells looked (try_each n vs (candidates n ip (length vs) way limit 1)) (λ p. Answer (found_at n (length vs) p)) s1 u o e
