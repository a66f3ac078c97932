-- The entries of a history, by the lines and the differences that keep them.
use Rattle.std.proofs.Common.{◌≡◌, ℕ, zero, suc, ◌+◌, ◌<◌, List, [], ◌∷◌, ◌++◌, refl, sym, ◌∙◌, ap, subst, arith, length, get_or}
use Rattle.std.specs.Prelude.{Some, slice_get, slice_index_or}
use Rattle.std.proofs.lemmas.List.{length_push}
use Rattle.tierra_model.specs.declared.history.Entry.{Entry}
use Rattle.tierra_model.specs.declared.history.Stale.{Stale}
use Rattle.tierra_model.specs.declared.history.Stale.TheVariants as stale
use Rattle.tierra_model.specs.declared.history.How.{How}
use Rattle.tierra_model.proofs.Each.{Each, each-append}
use Rattle.commit_book.specs.declared.history.Line.{Line}
use Rattle.commit_book.specs.declared.history.HowAt.{HowAt}
use Rattle.commit_book.specs.declared.history.HowAt.TheVariants as way
use Rattle.commit_book.specs.History.{IsThere, KeepsLines, entries_of, how_by}

abbrev pub entry_of : List Stale → ℕ → Line → Entry
entry_of ds n l = record { quantum = n + 1; creature = l.creature; by = l.by; how = how_by ds l.way }

pub entries-length : (ds : List Stale) (n : ℕ) (ls : List Line) → length (entries_of ds n ls) ≡ length ls
entries-length ds n [] = refl
entries-length ds n (l ∷ ls) = ap (λ (k : ℕ). suc k) (entries-length ds (n + 1) ls)

-- a line more
pub entries-push : (ds : List Stale) (n : ℕ) (ls : List Line) (l : Line)
    → entries_of ds n (ls ++ l ∷ []) ≡ entries_of ds n ls ++ entry_of ds (n + length ls) l ∷ []
entries-push ds n [] l = let e : n ≡ n + 0 = omega arith in ap (λ (k : ℕ). entry_of ds k l ∷ []) e
entries-push ds n (k ∷ ks) l =
    let e : n + 1 + length ks ≡ n + suc (length ks) = omega arith in
    ap (λ (es : List Entry). entry_of ds n k ∷ es) (entries-push ds (n + 1) ks l ∙ ap (λ (m : ℕ). entries_of ds (n + 1) ks ++ entry_of ds m l ∷ []) e)

index-push : (ds : List Stale) (d : Stale) (k : ℕ) → k < length ds → slice_index_or (ds ++ d ∷ []) k stale.Body ≡ slice_index_or ds k stale.Body
index-push [] d k h = absurd (omega arith)
index-push (x ∷ xs) d zero h = refl
index-push (x ∷ xs) d (suc k) h = index-push xs d k (omega arith)

how-push : (ds : List Stale) (d : Stale) (w : HowAt) → IsThere (length ds) w → how_by (ds ++ d ∷ []) w ≡ how_by ds w
how-push ds d way.Fresh h = refl
how-push ds d way.Missing h = refl
how-push ds d (way.Stale k) h = ap (λ (s : Stale). how_by (s ∷ []) (way.Stale 0)) (index-push ds d k h)

-- a difference more
entries-more : (ds : List Stale) (d : Stale) (n : ℕ) (ls : List Line) → Each (λ l. IsThere (length ds) l.way) ls
    → entries_of (ds ++ d ∷ []) n ls ≡ entries_of ds n ls
entries-more ds d n [] h = refl
entries-more ds d n (l ∷ ls) h =
    (λ i. record { quantum = n + 1; creature = l.creature; by = l.by; how = how-push ds d l.way h.0 i } ∷ entries-more ds d (n + 1) ls h.1 i)

there-more : (m n : ℕ) (w : HowAt) → m < n → IsThere m w → IsThere n w
there-more m n way.Fresh h k = tt
there-more m n way.Missing h k = tt
there-more m n (way.Stale p) h k = omega (arith, k)

each-more : (m n : ℕ) (ls : List Line) → m < n → Each (λ l. IsThere m l.way) ls → Each (λ l. IsThere n l.way) ls
each-more m n [] h k = tt
each-more m n (l ∷ ls) h k = (there-more m n l.way h k.0, each-more m n ls h k.1)

pub keeps-same : (ds es : List Stale) → es ≡ ds → KeepsLines ds es
keeps-same ds es is = subst (KeepsLines ds) (sym is) (λ ls h. (refl, h))

pub keeps-more : (ds es : List Stale) (d : Stale) → es ≡ ds ++ d ∷ [] → KeepsLines ds es
keeps-more ds es d is =
    subst (KeepsLines ds) (sym is) (λ ls h. (entries-more ds d 0 ls h, each-more (length ds) (length (ds ++ d ∷ [])) ls (omega (arith, length_push ds d)) h))

-- the difference that was put in last
pub index-last : (ds : List Stale) (d : Stale) → slice_index_or (ds ++ d ∷ []) (length ds) stale.Body ≡ d
index-last [] d = refl
index-last (x ∷ xs) d = index-last xs d

pub each-at : (n : ℕ) (ls : List Line) (k : ℕ) (d : Line) → k < length ls → Each (λ l. IsThere n l.way) ls → IsThere n (get_or ls k d).way
each-at n [] k d h e = absurd (omega arith)
each-at n (l ∷ ls) zero d h e = e.0
each-at n (l ∷ ls) (suc k) d h e = each-at n ls k d (omega arith) e.1

-- the entry at a place
pub entries-at : (ds : List Stale) (n : ℕ) (ls : List Line) (k : ℕ) (d : Line) → k < length ls
    → slice_get (entries_of ds n ls) k ≡ Some (entry_of ds (n + k) (get_or ls k d))
entries-at ds n [] k d h = absurd (omega arith)
entries-at ds n (l ∷ ls) zero d h = let e : n ≡ n + 0 = omega arith in ap (λ (m : ℕ). Some (entry_of ds m l)) e
entries-at ds n (l ∷ ls) (suc k) d h =
    let e : n + 1 + k ≡ n + suc k = omega arith in
    entries-at ds (n + 1) ls k d (omega arith) ∙ ap (λ (m : ℕ). Some (entry_of ds m (get_or ls k d))) e

-- a line more, in what contracts see
pub pushed : (ds es : List Stale) (ls : List Line) (l : Line) (how : How) (old : List Entry) → Each (λ k. IsThere (length ds) k.way) ls → KeepsLines ds es
    → how_by es l.way ≡ how → entries_of ds 0 ls ≡ old
    → entries_of es 0 (ls ++ l ∷ []) ≡ old ++ record { quantum = length old + 1; creature = l.creature; by = l.by; how = how } ∷ []
pushed ds es ls l how old each keeps is view =
    let long : 0 + length ls ≡ length old = omega (arith, entries-length ds 0 ls, ap length view) in
    entries-push es 0 ls l
    ∙ (λ i. ((keeps ls each).0 ∙ view) i ++ record { quantum = long i + 1; creature = l.creature; by = l.by; how = is i } ∷ [])

pub each-pushed : (ds es : List Stale) (ls : List Line) (l : Line) → Each (λ k. IsThere (length ds) k.way) ls → KeepsLines ds es → IsThere (length es) l.way
    → Each (λ k. IsThere (length es) k.way) (ls ++ l ∷ [])
each-pushed ds es ls l each keeps there = each-append (λ (k : Line). IsThere (length es) k.way) ls (l ∷ []) (keeps ls each).1 (there, tt)
