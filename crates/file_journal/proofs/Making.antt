-- What a crash leaves in each step in which a file gets its header.
use Rattle.std.proofs.Common.{◌≡◌, ◌≢◌, ◌∙◌, inl, inr, ⊎_elim, refl, sym, ap, subst, ℕ, ◌+◌, ◌<◌, ◌≤◌, arith, List, [], ◌∷◌, ◌++◌, length, get_or, take, drop}
use Rattle.std.proofs.Common.{append_assoc, length-append}
use Rattle.std.proofs.lemmas.Bool.{cases_eq}
use Rattle.std.proofs.lemmas.List.{take_at, drop_at, get_or-take, length-drop}
use Rattle.desk_io.specs.Desk.{spliced, Torn}
use Rattle.file_journal.specs.Creating.{IsBlank, IsMade, IsMaking, LacksFirstByte}
use Rattle.file_journal.specs.Files.{IsBegun, IsFresh, IsTitle}
use Rattle.file_journal.specs.declared.header.Header.{Header}
use Rattle.file_journal.proofs.Shapes.{torn_byte, spliced_behind, spliced_byte, first_and}

-- one byte of a short file: a crash leaves a short file
pub short_torn : (title file image : List ℕ) → length file < 45 → Torn 0 1 file image → IsFresh title image
short_torn title file image short torn = inl (omega (arith, torn.no_longer))

pub short_written : (file : List ℕ) → IsBlank (spliced file 0 (0 ∷ []))
short_written file = (refl, omega (arith, length-append (0 ∷ []) (drop 1 file)))

-- after a first byte of 0: it stays 0
pub blank_torn : (title file image : List ℕ) (n : ℕ) → IsBlank file → Torn 1 n file image → IsFresh title image
blank_torn title file image n blank torn =
    let front : take 1 image ≡ take 1 file = torn.before in
    let here = get_or-take 1 image 0 0 (omega arith) in
    let there = get_or-take 1 file 0 0 (omega arith) in
    inr (inl (sym here ∙ ap (λ (l : List ℕ). get_or l 0 0) front ∙ there ∙ blank.0))

-- the first twelve bytes of a header in the making
begun_front : (title file : List ℕ) → length title ≡ 12 → IsBegun title file → 45 ≤ length file
    → take 12 file ≡ get_or file 0 0 ∷ drop 1 title
begun_front title file len begun long =
    let first = first_and file (omega (arith, long)) in
    ap (take 12) first ∙ ap (λ (l : List ℕ). get_or file 0 0 ∷ l) begun.others

-- they stay in front of what is written after the title
pub begun_torn : (title file image : List ℕ) (n : ℕ) → length title ≡ 12 → IsBegun title file → 45 ≤ length file
    → Torn 12 n file image → IsFresh title image
begun_torn title file image n len begun long torn =
    let front : take 12 image ≡ get_or file 0 0 ∷ drop 1 title = torn.before ∙ begun_front title file len begun long in
    let here = get_or-take 12 image 0 0 (omega arith) in
    let first : get_or image 0 0 ≡ get_or file 0 0 = sym here ∙ ap (λ (l : List ℕ). get_or l 0 0) front in
    let image_is : image ≡ get_or image 0 0 ∷ drop 1 image = first_and image (omega (arith, torn.no_shorter, long)) in
    let whole : get_or image 0 0 ∷ take 11 (drop 1 image) ≡ get_or file 0 0 ∷ drop 1 title =
    sym (ap (take 12) image_is) ∙ front in
    let made : IsBegun title image = record {
      first = λ e. begun.first (sym first ∙ e);
      others = ap (drop 1) whole;
    } in
    inr (inr made)

zero_is_not : (b t : ℕ) → b ≡ 0 → 0 < t → b ≢ t
zero_is_not b t is some e = omega (arith, is, some, e)

module _ (h : Header) (title_len : length h.title ≡ 12) where
  -- the bytes of a header from its second on, and from the digest on
  abbrev pub others : List ℕ
  others = drop 1 h.title

  abbrev pub behind_title : List ℕ
  behind_title = h.digest ++ 0 ∷ []

  abbrev pub behind_first : List ℕ
  behind_first = others ++ behind_title

  abbrev pub first : ℕ
  first = get_or h.title 0 0

  pub title_is : h.title ≡ first ∷ others
  title_is = first_and h.title (omega (arith, title_len))

  pub length-others : length others ≡ 11
  length-others = omega (arith, length-drop 1 h.title, title_len)

  -- the bytes of a header, without the first, and without the title
  pub header_behind_first : drop 1 (h.title ++ behind_title) ≡ behind_first
  header_behind_first = ap (λ (t : List ℕ). drop 1 (t ++ behind_title)) title_is

  pub header_behind_title : drop 12 (h.title ++ behind_title) ≡ behind_title
  header_behind_title = drop_at h.title behind_title 12 title_len

  pub header_first : take 1 (h.title ++ behind_title) ≡ first ∷ []
  header_first = ap (λ (t : List ℕ). take 1 (t ++ behind_title)) title_is

  pub blank_written : (file : List ℕ) → IsTitle h.title → IsBlank file → LacksFirstByte h (spliced file 1 behind_first)
  blank_written file is blank =
      let tail = drop 1 file in
      let begins : file ≡ 0 ∷ tail = first_and file blank.1 ∙ ap (λ (b : ℕ). b ∷ tail) blank.0 in
      let rest = drop (1 + length behind_first) (0 ∷ tail) in
      record {
        first = 0;
        rest = rest;
        text =
            ap (λ (f : List ℕ). spliced f 1 behind_first) begins ∙ spliced_behind (0 ∷ []) tail behind_first
            ∙ ap (λ (l : List ℕ). 0 ∷ l) (
            append_assoc others behind_title rest ∙ ap (λ (l : List ℕ). others ++ l) (append_assoc h.digest (0 ∷ []) rest));
        not_whole = zero_is_not 0 first refl is;
      }

  pub begun_written : (file : List ℕ) → IsBegun h.title file → 45 ≤ length file → LacksFirstByte h (spliced file 12 behind_title)
  begun_written file begun long =
      let b = get_or file 0 0 in
      let front = begun_front h.title file title_len begun long in
      let rest = drop (12 + length behind_title) file in
      record {
        first = b;
        rest = rest;
        text =
            ap (λ (l : List ℕ). (l ++ behind_title) ++ rest) front
            ∙ append_assoc (b ∷ others) behind_title rest
            ∙ ap (λ (l : List ℕ). b ∷ (others ++ l)) (append_assoc h.digest (0 ∷ []) rest);
        not_whole = begun.first;
      }

  -- a header with a closed gate
  whole_made : (file rest : List ℕ) → file ≡ first ∷ (others ++ (h.digest ++ 0 ∷ rest)) → IsMade h file
  whole_made file rest text = record {
    gate = 0;
    rest = rest;
    text =
        text ∙ ap (λ (t : List ℕ). t ++ (h.digest ++ 0 ∷ rest)) (sym title_is)
        ∙ sym (append_assoc h.title h.digest (0 ∷ rest));
    closed = λ e. omega (arith, e);
  }

  -- the first byte: the file has no header yet, or a whole one with no records
  pub first_torn : (file image : List ℕ) → LacksFirstByte h file → Torn 0 1 file image → IsMaking h image
  first_torn file image ready torn =
      let behind = others ++ (h.digest ++ 0 ∷ ready.rest) in
      let here = subst (λ (f : List ℕ). Torn 0 1 f image) ready.text torn in
      let b = get_or image 0 0 in
      let whole : image ≡ b ∷ behind = torn_byte [] behind image ready.first here in
      ⊎_elim
      (λ (is : b ≡ first). inr (whole_made image ready.rest (whole ∙ ap (λ (c : ℕ). c ∷ behind) is)))
      (λ (isnt : b ≢ first).
      let others_are : take 11 (drop 1 image) ≡ others =
      ap (λ (l : List ℕ). take 11 (drop 1 l)) whole ∙ take_at others (h.digest ++ 0 ∷ ready.rest) 11 length-others in
      let made : IsBegun h.title image = record { first = isnt; others = others_are } in
      inl (inr (inr made)))
      (cases_eq b first)

  pub first_written : (file : List ℕ) → LacksFirstByte h file → IsMade h (spliced file 0 (first ∷ []))
  first_written file ready =
      let behind = others ++ (h.digest ++ 0 ∷ ready.rest) in
      whole_made (spliced file 0 (first ∷ [])) ready.rest
      (ap (λ (f : List ℕ). spliced f 0 (first ∷ [])) ready.text ∙ spliced_byte [] behind ready.first first)
