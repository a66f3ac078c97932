-- A soup file tells one setup, and has no fault.
use Rattle.std.proofs.Common.{◌≡◌, ◌∙◌, ◌≤◌, ℕ, List, [], ◌∷◌, Some, Result, Ok, ap, ap₂, inl, inr, map, refl, subst, sym}
use Rattle.std.proofs.Props.{props}
use mathlib.Core.HLevel.{is_prop→PathP}
use Rattle.toml.specs.Data.{Members}
use Rattle.toml.specs.Parse.{parse_document}
use Rattle.tierra_model.specs.declared.keys.TheConstants.{SOUP_SIZE, SLICE_SIZE, SLICE_NUM, SLICE_DEN, SEARCH_LIMIT, MIN_TEMPLATE, MIN_CELL, MAX_CELL, MAL_MULT}
use Rattle.tierra_model.specs.declared.keys.TheConstants.{FILL_PERCENT, MOVE_PERCENT, SAVE_AT, DIST_EVERY, DIST_PERCENT}
use Rattle.tierra_model.specs.declared.parameters.Settings.{Settings}
use Rattle.tierra_model.specs.declared.setups.Inoculum.{Inoculum}
use Rattle.tierra_model.specs.Setups.{SetupFields}
use Rattle.soup_file.specs.declared.fault.FileFault.{FileFault}
use Rattle.soup_file.specs.Keys.{first_fault}
use Rattle.soup_file.specs.Creatures.{creature_tables, inocula_of}
use Rattle.soup_file.specs.Settings.{AreSettingsOf}
use Rattle.soup_file.specs.SoupFile.{IsFaultOf, IsSetupOf, IsSoupFile, checks_of}

same : {A E : Type 0} (r : Result A E) (x y : A) → r ≡ Ok x → r ≡ Ok y → x ≡ y
same r x y e f = cc

one-settings : (document : Members) (a b : Settings) → AreSettingsOf document a → AreSettingsOf document b → a ≡ b
one-settings document a b p q =
    let soup_size = same _ a.soup_size b.soup_size p.soup_size q.soup_size in
    let slice_size = same _ a.slice_size b.slice_size p.slice_size q.slice_size in
    let slice_by_size = same _ a.slice_by_size b.slice_by_size p.slice_by_size q.slice_by_size in
    let slice_num = same _ a.slice_num b.slice_num p.slice_num q.slice_num in
    let slice_den = same _ a.slice_den b.slice_den p.slice_den q.slice_den in
    let search_limit = same _ a.search_limit b.search_limit p.search_limit q.search_limit in
    let min_template = same _ a.min_template b.min_template p.min_template q.min_template in
    let min_cell = same _ a.min_cell b.min_cell p.min_cell q.min_cell in
    let max_cell = same _ a.max_cell b.max_cell p.max_cell q.max_cell in
    let mal_mult = same _ a.mal_mult b.mal_mult p.mal_mult q.mal_mult in
    let fill_percent = same _ a.fill_percent b.fill_percent p.fill_percent q.fill_percent in
    let move_percent = same _ a.move_percent b.move_percent p.move_percent q.move_percent in
    let save_at = same _ a.save_at b.save_at p.save_at q.save_at in
    let back_rate = same _ a.back_rate b.back_rate p.back_rate q.back_rate in
    let copy_rate = same _ a.copy_rate b.copy_rate p.copy_rate q.copy_rate in
    let flaw_rate = same _ a.flaw_rate b.flaw_rate p.flaw_rate q.flaw_rate in
    let seed = same _ a.seed b.seed p.seed q.seed in
    let dist_every = same _ a.dist_every b.dist_every p.dist_every q.dist_every in
    let dist_percent = same _ a.dist_percent b.dist_percent p.dist_percent q.dist_percent in
    λ i. record {
      soup_size = soup_size i;
      slice_size = slice_size i;
      slice_by_size = slice_by_size i;
      slice_num = slice_num i;
      slice_den = slice_den i;
      search_limit = search_limit i;
      min_template = min_template i;
      min_cell = min_cell i;
      max_cell = max_cell i;
      mal_mult = mal_mult i;
      fill_percent = fill_percent i;
      move_percent = move_percent i;
      save_at = save_at i;
      back_rate = back_rate i;
      copy_rate = copy_rate i;
      flaw_rate = flaw_rate i;
      seed = seed i;
      dist_every = dist_every i;
      dist_percent = dist_percent i;
      soup = is_prop→PathP (λ j. (SOUP_SIZE.least ≤ soup_size j) × (soup_size j ≤ SOUP_SIZE.greatest)) (λ j. Prim.hlevel props) a.soup b.soup i;
      slice = is_prop→PathP (λ j. (SLICE_SIZE.least ≤ slice_size j) × (slice_size j ≤ SLICE_SIZE.greatest)) (λ j. Prim.hlevel props) a.slice b.slice i;
      by_size = is_prop→PathP (λ j. (SLICE_NUM.least ≤ slice_num j) × (slice_num j ≤ SLICE_NUM.greatest) × (SLICE_DEN.least ≤ slice_den j)
          × (slice_den j ≤ SLICE_DEN.greatest)) (λ j. Prim.hlevel props) a.by_size b.by_size i;
      search = is_prop→PathP (λ j. (SEARCH_LIMIT.least ≤ search_limit j) × (search_limit j ≤ SEARCH_LIMIT.greatest))
          (λ j. Prim.hlevel props) a.search b.search i;
      template = is_prop→PathP (λ j. (MIN_TEMPLATE.least ≤ min_template j) × (min_template j ≤ MIN_TEMPLATE.greatest))
          (λ j. Prim.hlevel props) a.template b.template i;
      cells = is_prop→PathP (λ j. (MIN_CELL.least ≤ min_cell j) × (min_cell j ≤ max_cell j) × (max_cell j ≤ MAX_CELL.greatest))
          (λ j. Prim.hlevel props) a.cells b.cells i;
      mult = is_prop→PathP (λ j. (MAL_MULT.least ≤ mal_mult j) × (mal_mult j ≤ MAL_MULT.greatest)) (λ j. Prim.hlevel props) a.mult b.mult i;
      fill = is_prop→PathP (λ j. (FILL_PERCENT.least ≤ fill_percent j) × (fill_percent j ≤ FILL_PERCENT.greatest)) (λ j. Prim.hlevel props) a.fill b.fill i;
      moving = is_prop→PathP (λ j. move_percent j ≤ MOVE_PERCENT.greatest) (λ j. Prim.hlevel props) a.moving b.moving i;
      saving = is_prop→PathP (λ j. (SAVE_AT.least ≤ save_at j) × (save_at j ≤ SAVE_AT.greatest)) (λ j. Prim.hlevel props) a.saving b.saving i;
      disturbing = is_prop→PathP (λ j. (dist_every j ≤ DIST_EVERY.greatest) × (dist_percent j ≤ DIST_PERCENT.greatest))
          (λ j. Prim.hlevel props) a.disturbing b.disturbing i;
    }

map-some : (xs ys : List Inoculum) → map Some xs ≡ map Some ys → xs ≡ ys
map-some [] [] e = refl
map-some [] (y ∷ ys) e = absurd cc
map-some (x ∷ xs) [] e = absurd cc
map-some (x ∷ xs) (y ∷ ys) e =
    let first : x ≡ y = cc in
    let rest : map Some xs ≡ map Some ys = cc in
    ap₂ (λ (z : Inoculum) (zs : List Inoculum). z ∷ zs) first (map-some xs ys rest)

one-setup-of : (document : Members) (a b : SetupFields) → IsSetupOf document a → IsSetupOf document b → a ≡ b
one-setup-of document a b p q =
    let settings = one-settings document a.settings b.settings p.settings q.settings in
    let tables = same (creature_tables document) p.creatures q.creatures p.tables q.tables in
    let inocula = p.inocula
    ∙ ap₂ (λ (s : Settings) (ts : List Members). inocula_of s.soup_size ts) settings tables
    ∙ sym q.inocula in
    let creatures = map-some a.creatures b.creatures inocula in
    λ i. record { settings = settings i; creatures = creatures i }

one-document : (bytes : List ℕ) (d e : Members) → parse_document bytes ≡ Some d → parse_document bytes ≡ Some e → d ≡ e
one-document bytes d e p q = cc

pub one-setup : (bytes : List ℕ) (a b : SetupFields) → IsSoupFile bytes a → IsSoupFile bytes b → a ≡ b
one-setup bytes a b (d, p, s) (e, q, t) =
    one-setup-of e a b (subst (λ x. IsSetupOf x a) (one-document bytes d e p.1 q.1) s) t

pub no-fault : (bytes : List ℕ) (setup : SetupFields) (fault : FileFault) → IsSoupFile bytes setup → IsFaultOf bytes fault → ⊥
no-fault bytes setup fault (d, p, s) (inl f) = let none = f.1 p.0 in let some = p.1 in absurd cc
no-fault bytes setup fault (d, p, s) (inr (e, q, f)) =
    let found = ap (λ x. first_fault (checks_of x)) (one-document bytes d e p.1 q.1) in
    let passes = s.passes in
    absurd cc

pub one-fault : (bytes : List ℕ) (a b : FileFault) → IsFaultOf bytes a → IsFaultOf bytes b → a ≡ b
one-fault bytes a b (inl f) (inl g) = f.0 ∙ sym g.0
one-fault bytes a b (inl f) (inr (e, q, g)) = let none = f.1 q.0 in let some = q.1 in absurd cc
one-fault bytes a b (inr (d, p, f)) (inl g) = let none = g.1 p.0 in let some = p.1 in absurd cc
one-fault bytes a b (inr (d, p, f)) (inr (e, q, g)) =
    let found = ap (λ x. first_fault (checks_of x)) (one-document bytes d e p.1 q.1) in
    cc
