-- What reads and writes do to the known bytes, where they stay known or unknown.
use Rattle.std.proofs.Common.{◌≡◌, ◌∙◌, refl, sym, ap, subst, arith, ℕ, ◌+◌, ◌-◌, ◌≤◌, is_some, List, ◌++◌, length, take, drop, Option, None, Some, Result}
use Rattle.std.proofs.Common.{Ok, Err}
use Rattle.std.proofs.Common.{IfOk, OnOk, append_assoc, append-nil, length-drop}
use Rattle.std.proofs.lemmas.List.{length-take-le, take_all}
use Rattle.std.proofs.Math.Seq.{take-add}
use Rattle.std.specs.Option.{option_map}
use Rattle.std.specs.Io.KnownBytes.{Appends, Keeps, WriteAppends}
use Rattle.desk_io.specs.Desk.{Appended}

pub keeps_same : (a b : Option (List ℕ)) → is_some a ≡ is_some b → Keeps a b → b ≡ a
keeps_same None None steady keeps = refl
keeps_same None (Some ys) steady keeps = cc
keeps_same (Some xs) None steady keeps = absurd keeps
keeps_same (Some xs) (Some ys) steady keeps = ap (λ (zs : List ℕ). Some zs) keeps

pub appends_told : (a b : Option (List ℕ)) (bs : List ℕ) → is_some a ≡ is_some b → Appends a b bs → Appended a bs b
appends_told None None bs steady appends = refl
appends_told None (Some ys) bs steady appends = cc
appends_told (Some xs) None bs steady appends = absurd appends
appends_told (Some xs) (Some ys) bs steady appends = ap (λ (zs : List ℕ). Some zs) appends

-- nothing appended
pub appended_none : (a : Option (List ℕ)) (piece : List ℕ) → Appended a (take 0 piece) a
appended_none None piece = refl
appended_none (Some xs) piece = ap (λ (zs : List ℕ). Some zs) (sym (append-nil xs))

-- the first bytes of a piece, and then the next ones of the rest
pub appended_more : (a b c : Option (List ℕ)) (piece : List ℕ) (k n : ℕ) → Appended a (take k piece) b
    → Appended b (take n (take (length piece - k) (drop k piece))) c → Appended a (take (k + n) piece) c
appended_more a b c piece k n first second = more a first
  where
    rest : List ℕ
    rest = take (length piece - k) (drop k piece)

    rest-is : rest ≡ drop k piece
    rest-is = take_all (length piece - k) (drop k piece) (omega (arith, length-drop k piece))

    more : (o : Option (List ℕ)) → Appended o (take k piece) b → Appended o (take (k + n) piece) c
    more None is = subst (λ p. c ≡ option_map (λ text. text ++ take n rest) p) is second
    more (Some xs) is =
        let after = subst (λ p. c ≡ option_map (λ text. text ++ take n rest) p) is second in
        let next = ap (λ (r : List ℕ). Some ((xs ++ take k piece) ++ take n r)) rest-is in
        let whole = append_assoc xs (take k piece) (take n (drop k piece))
        ∙ ap (λ (p : List ℕ). xs ++ p) (sym (take-add k n piece)) in
        after ∙ next ∙ ap (λ (zs : List ℕ). Some zs) whole

-- what one write does, after nothing was changed
pub write_told : {E : Type 0} (a b c : Option (List ℕ)) (r : Result ℕ E) (buf : List ℕ) → b ≡ a → is_some b ≡ is_some c
    → WriteAppends b c r buf → IfOk r (λ n. Appended a (take n buf) c)
write_told a b c (Ok n) buf same steady appends =
    subst (λ o. Appended o (take n buf) c) same (appends_told b c (take n buf) steady appends)
write_told a b c (Err e) buf same steady appends = tt

-- a whole piece that was appended, and then kept
pub kept_whole : {E : Type 0} (a b c : Option (List ℕ)) (piece : List ℕ) (k : ℕ) (r : Result (Unit {0}) E) → length piece ≤ k
    → Appended a (take k piece) b → c ≡ b → OnOk r (Appended a piece c)
kept_whole a b c piece k (Ok u) all appended same =
    same ∙ appended ∙ ap (λ p. option_map (λ text. text ++ p) a) (take_all k piece all)
kept_whole a b c piece k (Err e) all appended same = tt

pub length-slice : (k : ℕ) (piece : List ℕ) → length (take (length piece - k) (drop k piece)) ≡ length piece - k
length-slice k piece = length-take-le (length piece - k) (drop k piece) (omega (arith, length-drop k piece))
