-- Trying the candidates at one distance after another.
use Rattle.std.proofs.Common.{◌≡◌, ℕ, zero, suc, ◌+◌, ◌-◌, ◌<◌, ◌≤◌, List, [], ◌∷◌, ◌++◌, refl, sym, ◌∙◌, ap, append-nil, append_assoc, arith, length, subst}
use Rattle.std.specs.Prelude.{Option, Some, None}
use Rattle.tierra_model.specs.declared.searching.Way.{Way}
use Rattle.tierra_model.specs.declared.searching.Way.TheVariants.{Backward, Forward, Outward}
use Rattle.tierra_model.specs.Look.{pass, Passes}
use Rattle.tierra_model.specs.Search.{try_each, at_distance, candidates}
use Rattle.template_search.specs.Sides.{on_sides}
use Rattle.template_search.specs.Reaching.{Reaches}
use Rattle.template_search.proofs.Reaching.{reaches_straight}
use Rattle.template_search.proofs.Trying.{first_found, none_found}

-- the candidates at the first distances, and those at the others
candidates_after : (n ip t : ℕ) (way : Way) (a b d : ℕ) → candidates n ip t way (a + b) d ≡ candidates n ip t way a d ++ candidates n ip t way b (d + a)
unfolding candidates
candidates_after n ip t way zero b d =
    let none : 0 + b ≡ b = omega arith in
    let same : d ≡ d + 0 = omega arith in
    ap (λ (k : ℕ). candidates n ip t way k d) none ∙ ap (λ (k : ℕ). candidates n ip t way b k) same
candidates_after n ip t way (suc a) b d =
    let one : suc a + b ≡ suc (a + b) = omega arith in
    let same : d + 1 + a ≡ d + suc a = omega arith in
    let rest = candidates_after n ip t way a b (d + 1) ∙ ap (λ (k : ℕ). candidates n ip t way a (d + 1) ++ candidates n ip t way b k) same in
    ap (λ (k : ℕ). candidates n ip t way k d) one
    ∙ ap (λ (l : List ℕ). at_distance n ip t way d ++ l) rest
    ∙ sym (append_assoc (at_distance n ip t way d) (candidates n ip t way a (d + 1)) (candidates n ip t way b (d + suc a)))

sides-at_distance : (n ip t k a b : ℕ) (w : Way) → Reaches n ip t k a b → on_sides w a b ≡ at_distance n ip t w k
sides-at_distance n ip t k a b Outward r = λ i. r.ahead i ∷ r.behind i ∷ []
sides-at_distance n ip t k a b Forward r = λ i. r.ahead i ∷ []
sides-at_distance n ip t k a b Backward r = λ i. r.behind i ∷ []

module _ {S : Type 0} (cells : S → ℕ → ℕ) (looked : S → ℕ → S) (n ip : ℕ) (way : Way) (start limit : ℕ) (vs : List ℕ) (s0 : S) where
  abbrev from : ℕ → S → S × Option ℕ
  from k s = pass cells looked (try_each n vs (candidates n ip (length vs) way (limit - k) (k + 1))) s

  abbrev whole : S × Option ℕ
  whole = from start s0

  -- what is left to try after distance k gives what trying all after the start gives
  pub record SearchesOn (k : ℕ) (s : S) : Type 0 where
    pub same : from k s ≡ whole

  pub search_begins : SearchesOn start s0
  search_begins = record { same = refl }

  step_of : (k a b : ℕ) (s : S) → k < limit → Reaches n ip (length vs) (k + 1) a b
      → from k s ≡ pass cells looked (try_each n vs (on_sides way a b ++ candidates n ip (length vs) way (limit - (k + 1)) (k + 1 + 1))) s
  unfolding candidates
  step_of k a b s h r =
      let e : limit - k ≡ suc (limit - (k + 1)) = omega arith in
      ap (λ (j : ℕ). pass cells looked (try_each n vs (candidates n ip (length vs) way j (k + 1))) s) e
      ∙ ap (λ (l : List ℕ). pass cells looked (try_each n vs (l ++ candidates n ip (length vs) way (limit - (k + 1)) (k + 1 + 1))) s)
      (sym (sides-at_distance n ip (length vs) (k + 1) a b way r))

  pub search_goes_on : (k a b : ℕ) (s u : S) → k < limit → Reaches n ip (length vs) (k + 1) a b
      → Passes cells looked (try_each n vs (on_sides way a b)) s u None → SearchesOn k s → SearchesOn (k + 1) u
  search_goes_on k a b s u h r e c =
      record {
        same =
            sym (none_found cells looked n vs (on_sides way a b) (candidates n ip (length vs) way (limit - (k + 1)) (k + 1 + 1)) s u e)
            ∙ sym (step_of k a b s h r) ∙ c.same;
      }

  pub search_finds : (k a b p : ℕ) (s u : S) → k < limit → Reaches n ip (length vs) (k + 1) a b
      → Passes cells looked (try_each n vs (on_sides way a b)) s u (Some p) → SearchesOn k s
      → Passes cells looked (try_each n vs (candidates n ip (length vs) way (limit - start) (start + 1))) s0 u (Some p)
  search_finds k a b p s u h r e c =
      sym c.same ∙ step_of k a b s h r
      ∙ first_found cells looked n vs (on_sides way a b) (candidates n ip (length vs) way (limit - (k + 1)) (k + 1 + 1)) s u p e

  -- some of what is left was tried in vain
  pub search_goes_over : (k m : ℕ) (s u : S) → k ≤ m → m ≤ limit
      → Passes cells looked (try_each n vs (candidates n ip (length vs) way (m - k) (k + 1))) s u None → SearchesOn k s → SearchesOn m u
  search_goes_over k m s u h l e c =
      let split : limit - k ≡ m - k + (limit - m) = omega arith in
      let next : k + 1 + (m - k) ≡ m + 1 = omega arith in
      record {
        same =
            ap (λ (d : ℕ). pass cells looked (try_each n vs (candidates n ip (length vs) way (limit - m) d)) u) (sym next)
            ∙ sym (none_found cells looked n vs (candidates n ip (length vs) way (m - k) (k + 1))
            (candidates n ip (length vs) way (limit - m) (k + 1 + (m - k))) s u e)
            ∙ ap (λ (l : List ℕ). pass cells looked (try_each n vs l) s) (sym (candidates_after n ip (length vs) way (m - k) (limit - m) (k + 1)))
            ∙ ap (λ (j : ℕ). pass cells looked (try_each n vs (candidates n ip (length vs) way j (k + 1))) s) (sym split)
            ∙ c.same;
      }

  pub search_fails : (k : ℕ) (s : S) → limit ≤ k → SearchesOn k s
      → Passes cells looked (try_each n vs (candidates n ip (length vs) way (limit - start) (start + 1))) s0 s None
  unfolding candidates try_each
  search_fails k s h c =
      let e : limit - k ≡ zero = omega arith in
      sym c.same ∙ ap (λ (j : ℕ). pass cells looked (try_each n vs (candidates n ip (length vs) way j (k + 1))) s) e

module _ {S : Type 0} (cells : S → ℕ → ℕ) (looked : S → ℕ → S) (n ip : ℕ) (way : Way) (near limit : ℕ) (vs : List ℕ) (within : near ≤ limit) where
  abbrev first_ones : List ℕ
  first_ones = candidates n ip (length vs) way near 1

  abbrev others : List ℕ
  others = candidates n ip (length vs) way (limit - near) (near + 1)

  all_of : candidates n ip (length vs) way limit 1 ≡ first_ones ++ others
  all_of =
      let e : limit ≡ near + (limit - near) = omega arith in
      let f : 1 + near ≡ near + 1 = omega arith in
      ap (λ (k : ℕ). candidates n ip (length vs) way k 1) e ∙ candidates_after n ip (length vs) way near (limit - near) 1
      ∙ ap (λ (d : ℕ). first_ones ++ candidates n ip (length vs) way (limit - near) d) f

  -- one of the candidates at the first distances matches
  pub found_near : (s u : S) (p : ℕ) → Passes cells looked (try_each n vs first_ones) s u (Some p)
      → Passes cells looked (try_each n vs (candidates n ip (length vs) way limit 1)) s u (Some p)
  found_near s u p e = rw all_of (first_found cells looked n vs first_ones others s u p e)

  -- none of those matches, and the others are tried
  pub found_far : (s w u : S) (o : Option ℕ) → Passes cells looked (try_each n vs first_ones) s w None → Passes cells looked (try_each n vs others) w u o
      → Passes cells looked (try_each n vs (candidates n ip (length vs) way limit 1)) s u o
  found_far s w u o e f = rw all_of (none_found cells looked n vs first_ones others s w e ∙ f)

-- candidates that are tried in vain, and leave no trace
module _ {S : Type 0} (cells : S → ℕ → ℕ) (looked : S → ℕ → S) (n ip : ℕ) (way : Way) (vs : List ℕ) (v : S) where
  -- those at the distances after `from`, up to `to`
  abbrev pub InVain : ℕ → ℕ → Type 0
  InVain from to = Passes cells looked (try_each n vs (candidates n ip (length vs) way (to - from) (from + 1))) v v None

  pub none_in_vain : (k : ℕ) → InVain k k
  unfolding candidates try_each
  none_in_vain k =
      let none : k - k ≡ zero = omega arith in
      ap (λ (j : ℕ). pass cells looked (try_each n vs (candidates n ip (length vs) way j (k + 1))) v) none

  pub one_more_in_vain : (from to a b : ℕ) → from ≤ to → Reaches n ip (length vs) (to + 1) a b
      → Passes cells looked (try_each n vs (on_sides way a b)) v v None → InVain from to → InVain from (to + 1)
  unfolding candidates
  one_more_in_vain from to a b h r last before =
      let split : to + 1 - from ≡ to - from + 1 = omega arith in
      let next : from + 1 + (to - from) ≡ to + 1 = omega arith in
      let one : candidates n ip (length vs) way 1 (from + 1 + (to - from)) ≡ on_sides way a b =
      ap (λ (d : ℕ). candidates n ip (length vs) way 1 d) next ∙ append-nil (at_distance n ip (length vs) way (to + 1))
      ∙ sym (sides-at_distance n ip (length vs) (to + 1) a b way r) in
      ap (λ (j : ℕ). pass cells looked (try_each n vs (candidates n ip (length vs) way j (from + 1))) v) split
      ∙ ap (λ (l : List ℕ). pass cells looked (try_each n vs l) v) (candidates_after n ip (length vs) way (to - from) 1 (from + 1))
      ∙ none_found cells looked n vs (candidates n ip (length vs) way (to - from) (from + 1))
      (candidates n ip (length vs) way 1 (from + 1 + (to - from))) v v before
      ∙ ap (λ (l : List ℕ). pass cells looked (try_each n vs l) v) one
      ∙ last

  -- and those at m distances more, where neither side goes round
  pub straight_in_vain : (m to a b ahead behind size : ℕ) → n ≡ size → a + (to + m) ≤ n → to + m ≤ b → b < n → Reaches n ip (length vs) 1 a b
      → ahead ≡ a + to → behind ≡ b - to → ((j : ℕ) → j < m → Passes cells looked (try_each size vs (on_sides way (ahead + j) (behind - j))) v v None)
      → InVain 0 to → InVain 0 (to + m)
  straight_in_vain zero to a b ahead behind size same near_a near_b within first e f none before =
      let all : to ≡ to + 0 = omega arith in
      subst (λ (k : ℕ). InVain 0 k) all before
  straight_in_vain (suc m) to a b ahead behind size same near_a near_b within first e f none before =
      let rest = straight_in_vain m to a b ahead behind size same (omega arith) (omega arith) within first e f (λ j l. none j (omega arith)) before in
      let at_a : a + (to + m) ≡ ahead + m = omega arith in
      let at_b : b - (to + m) ≡ behind - m = omega arith in
      let there = reaches_straight n ip (length vs) 1 a b (to + m) (omega arith) (omega arith) within first in
      let places : Reaches n ip (length vs) (to + m + 1) (ahead + m) (behind - m) =
      subst (λ (p : ℕ). Reaches n ip (length vs) (to + m + 1) p (behind - m)) at_a
      (subst (λ (p : ℕ). Reaches n ip (length vs) (to + m + 1) (a + (to + m)) p) at_b there) in
      let last : Passes cells looked (try_each n vs (on_sides way (ahead + m) (behind - m))) v v None =
      subst (λ (k : ℕ). Passes cells looked (try_each k vs (on_sides way (ahead + m) (behind - m))) v v None) (sym same) (none m (omega arith)) in
      let next : to + m + 1 ≡ to + suc m = omega arith in
      subst (λ (k : ℕ). InVain 0 k) next (one_more_in_vain 0 (to + m) (ahead + m) (behind - m) (omega arith) places last rest)
