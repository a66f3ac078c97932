-- The bytes of a sound world are read as its parts.
use Rattle.std.proofs.Common.{◌≡◌, ◌∙◌, refl, sym, ap, ap₂, subst, ℕ, ◌+◌, ◌*◌, ◌<◌, ◌≤◌, ◌^◌, arith, List, [], ◌∷◌, ◌++◌, length, map, Option, Some, None}
use Rattle.std.proofs.Common.{append-nil}
use Rattle.std.specs.Prelude.{All, IfSome, unwrap_or}
use Rattle.std.specs.List.{flat_map}
use Rattle.std.specs.List.Sorted.{IsNonDecreasingBy, IsPermutation}
use Rattle.std.proofs.lemmas.List.{length-map}
use Rattle.std.proofs.lemmas.List.Folds.{flat_map-map}
use Rattle.tierra_model.specs.declared.limits.TheConstants.{COUNT_END, MOST_QUANTA, MOST_SIZE}
use Rattle.tierra_model.specs.declared.creatures.Block.{Block}
use Rattle.tierra_model.specs.declared.creatures.Creature.{Creature}
use Rattle.tierra_model.specs.declared.parameters.Settings.{Settings}
use Rattle.tierra_model.specs.Living.{ids_of, one_of}
use Rattle.tierra_model.specs.Ranges.{AreEfforts, IsCode}
use Rattle.tierra_model.specs.Sound.{IsPlaced, IsSound, ParentsBelow}
use Rattle.tierra_model.specs.World.{Genotype, World, Saving as ModelSaving}
use Rattle.tierra_model.proofs.DisturbanceCounts.{length-reaper}
use Rattle.tierra_model.proofs.Each.{Each, all_from_each, each-one, each_from_all}
use Rattle.tierra_model.proofs.Living.{one_of-id}
use Rattle.tierra_model.proofs.Sound.{sound-saved_below}
use Rattle.byte_fields.specs.declared.stop.Stop.{Stop}
use Rattle.byte_fields.specs.declared.stop.Stop.TheVariants as stop
use Rattle.byte_fields.specs.Exact.{Reads}
use Rattle.byte_fields.specs.Reading.{Stops, both, counted_at, eight_at, eights_at, four_at, list_at, sized_at}
use Rattle.byte_fields.specs.Writing.{IsLongEffort, eight, four}
use Rattle.byte_fields.proofs.Exact.{Counted, Listed, reads_both, reads_counted, reads_list, reads_pair}
use Rattle.byte_fields.proofs.Fields.{Long, LongPair, Short, eights_text, reads_eight, reads_eights, reads_four, reads_sized, sized_text}
use Rattle.world_state.specs.declared.fields.StoredGenotype.{StoredGenotype}
use Rattle.world_state.specs.declared.saving.Saving.{Saving}
use Rattle.world_state.specs.Reading.{StateParts, creature_at, found_at, genotype_of, genotypes_of, saving_at, state_at}
use Rattle.world_state.specs.Restoring.{AreBytesOf, FitsTypes, HasLongNumbers, HasWords}
use Rattle.world_state.specs.Savings.{saving_of, savings_of}
use Rattle.world_state.specs.StateBytes.{counts_bytes, creature_bytes, genotype_bytes, genotypes_bytes, living_bytes, reaper_bytes, saving_bytes}
use Rattle.world_state.specs.StateBytes.{savings_bytes, soup_bytes, state_bytes}
use Rattle.world_state.proofs.FieldsRead.{CreatureFits, FoundFits, SavingFits, grouped-6, reads_creature, reads_found, reads_saving}
use Rattle.world_state.proofs.LineOrder.{AreHere, are-here, ids-of_line, line_of, sorted-again}
use Rattle.world_state.proofs.SlicerLength.{length-slicer}

abbrev found_of : Genotype → StoredGenotype
found_of g =
    record {
      code = g.code;
      parent = g.parent;
      first_quantum = g.first_quantum;
      total = g.total;
      first_effort = g.first_effort;
      second_effort = g.second_effort;
    }

abbrev stored_of : ModelSaving → Saving
stored_of s = record { genotype = s.genotype; quantum = s.quantum; first_effort = s.first_effort; second_effort = s.second_effort }

abbrev pub parts_of_world : World → StateParts
parts_of_world w =
    (w.soup, (((w.quanta, w.births), (w.deaths, w.next_birth)), (line_of w, (w.reaper, (map found_of w.genotypes, map stored_of w.saved)))))

-- ---- the whole is read back

abbrev line_text : List Creature → List ℕ
line_text cs = four (length cs) ++ flat_map creature_bytes cs

abbrev founds_text : List StoredGenotype → List ℕ
founds_text fs = eight (length fs) ++ flat_map (λ f. genotype_bytes (genotype_of f)) fs

abbrev savings_text : List Saving → List ℕ
savings_text ss = eight (length ss) ++ flat_map (λ s. saving_bytes (saving_of s)) ss

abbrev counts_text : (ℕ × ℕ) × (ℕ × ℕ) → List ℕ
counts_text p = (eight p.0.0 ++ eight p.0.1) ++ (eight p.1.0 ++ eight p.1.1)

abbrev Genes : Type 0
Genes = List StoredGenotype × List Saving

abbrev GenesFit : Genes → Type 0
GenesFit p = Counted (2 ^ 64) FoundFits p.0 × Counted (2 ^ 64) SavingFits p.1

abbrev genes_text : Genes → List ℕ
genes_text p = founds_text p.0 ++ savings_text p.1

abbrev genes_at : List ℕ → Option (Genes × List ℕ)
genes_at = both (counted_at eight_at found_at) (λ _. counted_at eight_at saving_at)

reads-genes : Reads GenesFit genes_text genes_at
reads-genes =
    reads_pair (Counted (2 ^ 64) FoundFits) founds_text (counted_at eight_at found_at) (Counted (2 ^ 64) SavingFits) savings_text
    (counted_at eight_at saving_at)
    (reads_counted (2 ^ 64) eight eight_at FoundFits (λ f. genotype_bytes (genotype_of f)) found_at reads_eight reads_found)
    (reads_counted (2 ^ 64) eight eight_at SavingFits (λ s. saving_bytes (saving_of s)) saving_at reads_eight reads_saving)

abbrev Rest : Type 0
Rest = List ℕ × Genes

abbrev RestFits : List Creature → Rest → Type 0
RestFits line p = Listed Long (length line) p.0 × GenesFit p.1

abbrev rest_text : Rest → List ℕ
rest_text p = flat_map eight p.0 ++ genes_text p.1

abbrev rest_at : List Creature → List ℕ → Option (Rest × List ℕ)
rest_at line = both (list_at eight_at (length line)) (λ _. genes_at)

reads-rest : (line : List Creature) → Reads (RestFits line) rest_text (rest_at line)
reads-rest line =
    reads_pair (Listed Long (length line)) (flat_map eight) (list_at eight_at (length line)) GenesFit genes_text genes_at
    (reads_list Long eight eight_at reads_eight (length line)) reads-genes

abbrev Living : Type 0
Living = List Creature × Rest

abbrev LivingFits : Living → Type 0
LivingFits p = Counted (2 ^ 32) CreatureFits p.0 × RestFits p.0 p.1

abbrev living_text : Living → List ℕ
living_text p = line_text p.0 ++ rest_text p.1

abbrev living_at : List ℕ → Option (Living × List ℕ)
living_at = both (counted_at four_at creature_at) rest_at

reads-living : Reads LivingFits living_text living_at
reads-living =
    reads_both (Counted (2 ^ 32) CreatureFits) line_text (counted_at four_at creature_at) RestFits rest_text rest_at
    (reads_counted (2 ^ 32) four four_at CreatureFits creature_bytes creature_at reads_four reads_creature) reads-rest

abbrev LongPairs : (ℕ × ℕ) × (ℕ × ℕ) → Type 0
LongPairs p = LongPair p.0 × LongPair p.1

abbrev four_eights_at : List ℕ → Option (((ℕ × ℕ) × (ℕ × ℕ)) × List ℕ)
four_eights_at = both eights_at (λ _. eights_at)

abbrev pub StateFits : StateParts → Type 0
StateFits p = Short (length p.0) × (LongPairs p.1.0 × LivingFits p.1.1)

abbrev pub state_text : StateParts → List ℕ
state_text p = sized_text p.0 ++ (counts_text p.1.0 ++ living_text p.1.1)

pub reads_state : Reads StateFits state_text state_at
unfolding state_at
reads_state =
    reads_pair (λ (cells : List ℕ). Short (length cells)) sized_text sized_at
    (λ (p : ((ℕ × ℕ) × (ℕ × ℕ)) × Living). LongPairs p.0 × LivingFits p.1) (λ p. counts_text p.0 ++ living_text p.1)
    (both four_eights_at (λ _. living_at)) reads_sized
    (reads_pair LongPairs counts_text four_eights_at LivingFits living_text living_at
    (reads_pair LongPair eights_text eights_at LongPair eights_text eights_at reads_eights reads_eights) reads-living)

-- ---- the bytes are the text of the parts

line-length : (w : World) → IsSound w → length (line_of w) ≡ length w.living
line-length w s = length-map w.slicer (one_of w.living) ∙ length-slicer w s

same-text : (w : World) → IsSound w → state_bytes w ≡ state_text (parts_of_world w)
unfolding state_bytes soup_bytes counts_bytes living_bytes reaper_bytes genotypes_bytes savings_bytes
same-text w s =
    let soup : four w.settings.soup_size ++ w.soup ≡ four (length w.soup) ++ w.soup = ap (λ (n : ℕ). four n ++ w.soup) (sym s.cells) in
    let line : four (length w.living) ++ flat_map creature_bytes (line_of w) ≡ line_text (line_of w) =
    ap (λ (n : ℕ). four n ++ flat_map creature_bytes (line_of w)) (sym (line-length w s)) in
    let stored : eight (length w.genotypes) ++ flat_map genotype_bytes w.genotypes ≡ founds_text (map found_of w.genotypes) =
    ap₂ (λ (n : ℕ) (l : List ℕ). eight n ++ l) (sym (length-map w.genotypes found_of))
    (sym (flat_map-map (λ f. genotype_bytes (genotype_of f)) found_of w.genotypes)) in
    let saved : eight (length w.saved) ++ flat_map saving_bytes w.saved ≡ savings_text (map stored_of w.saved) =
    ap₂ (λ (n : ℕ) (l : List ℕ). eight n ++ l) (sym (length-map w.saved stored_of))
    (sym (flat_map-map (λ t. saving_bytes (saving_of t)) stored_of w.saved)) in
    let counts : List ℕ = counts_text ((w.quanta, w.births), (w.deaths, w.next_birth)) in
    let reaper : List ℕ = flat_map eight w.reaper in
    (λ i. soup i ++ counts ++ line i ++ reaper ++ stored i ++ saved i)
    ∙ sym (grouped-6 (four (length w.soup) ++ w.soup) counts (line_text (line_of w)) reaper (founds_text (map found_of w.genotypes))
    (savings_text (map stored_of w.saved)))

-- ---- the numbers fit

limit-small : (quanta : ℕ) → quanta ≤ MOST_QUANTA → 2 ^ 40 + 10000 * quanta < COUNT_END
limit-small quanta le = omega arith

creature-fits : (w : World) (c : Creature) → IsSound w → HasWords c → IsPlaced w.settings.soup_size c
    → (c.ip < w.settings.soup_size) × (c.sp < 10) → c.genotype < length w.genotypes → (1 ≤ c.id) × (c.id < w.next_birth)
    → (c.errors ≤ 2 ^ 40 + 10000 * w.quanta) × (c.moved ≤ 2 ^ 40 + 10000 * w.quanta) × (c.ran ≤ 2 ^ 40 + 10000 * w.quanta)
    × (c.bred ≤ 2 ^ 40 + 10000 * w.quanta)
    → CreatureFits c
creature-fits w c s words placed processor genotype number small =
    let most = w.settings.soup.1 in
    let past = s.quanta in
    let next = s.next_birth in
    let count = s.genotype_count in
    let own = placed.own in
    ((
      (
        omega (arith, number.1),
        (
          (omega (arith, own.1, own.2), omega (arith, own.1, own.2)),
          (daughter c.daughter placed.daughter, omega (arith, small.1)),
        ),
      ),
      (
        (
          ((words.ax, words.bx), (words.cx, words.dx)),
          (omega (arith, processor.0), ((words.ten, words.stack), (omega (arith, processor.1), words.flag))),
        ),
        (omega (arith, small.0), (omega (arith, genotype), (omega (arith, small.2), omega (arith, small.3)))),
      ),
    ))
  where
    daughter : (o : Option Block) → IfSome o (λ b. (1 ≤ b.size) × (b.size ≤ MOST_SIZE) × (b.at + b.size ≤ w.settings.soup_size))
        → IfSome o (λ b. ((b.at < 2 ^ 32) × (b.size < 2 ^ 32)) × (1 ≤ b.size))
    daughter None h = tt
    daughter (Some b) h =
        let most = w.settings.soup.1 in
        ((omega (arith, h.2), omega (arith, h.1)), h.0)

line-fits : (w : World) → IsSound w → FitsTypes w → (ids : List ℕ) → AreHere w.living ids → Each CreatureFits (map (one_of w.living) ids)
line-fits w s t [] h = tt
line-fits w s t (id ∷ ids) h = (
  creature-fits w (one_of w.living id) s
      (one HasWords t.creatures)
      (one (IsPlaced w.settings.soup_size) s.placed)
      (one (λ c. (c.ip < w.settings.soup_size) × (c.sp < 10)) s.processor)
      (one (λ c. c.genotype < length w.genotypes) s.genotype)
      (one (λ c. (1 ≤ c.id) × (c.id < w.next_birth)) s.numbers)
      (one (λ c. (c.errors ≤ 2 ^ 40 + 10000 * w.quanta) × (c.moved ≤ 2 ^ 40 + 10000 * w.quanta) × (c.ran ≤ 2 ^ 40 + 10000 * w.quanta)
      × (c.bred ≤ 2 ^ 40 + 10000 * w.quanta)) s.small),
  line-fits w s t ids h.1,
)
  where
    one : (P : Creature → Type 0) → All P w.living → P (one_of w.living id)
    one P all = each-one P w.living id h.0 (each_from_all P w.living all)

stored-fit : (most k : ℕ) (gs : List Genotype) → most < COUNT_END → k + length gs < COUNT_END → ParentsBelow k gs
    → Each (λ g. IsCode g.code) gs → Each (λ g. g.total ≤ most) gs → Each (λ g. AreEfforts g.first_effort g.second_effort) gs
    → Each HasLongNumbers gs → Each FoundFits (map found_of gs)
stored-fit most k [] low few parents written totals efforts long = tt
stored-fit most k (g ∷ gs) low few parents written totals efforts long =
    let code = written.0 in
    let total = totals.0 in (
      (
        omega (arith, code.1),
        (
          parent g.parent parents.0,
          (
            long.0.0,
            (
              omega (arith, total),
              ((efforts.0.0, long.0.1), (efforts.0.1, long.0.2)),
            ),
          ),
        ),
      ),
      stored-fit most (k + 1) gs low (omega (arith, few)) parents.1 written.1 totals.1 efforts.1 long.1,
    )
  where
    parent : (o : Option ℕ) → IfSome o (λ p. p < k) → IfSome o (λ p. p + 1 < 2 ^ 64)
    parent None h = tt
    parent (Some p) h = omega (arith, h, few)

savings-fit : (most q : ℕ) (ss : List ModelSaving) → most < COUNT_END → q ≤ MOST_QUANTA → Each (λ s. s.genotype < most) ss → Each (λ s. s.quantum ≤ q) ss
    → Each (λ s. AreEfforts s.first_effort s.second_effort) ss → Each (λ s. IsLongEffort s.first_effort × IsLongEffort s.second_effort) ss
    → Each SavingFits (map stored_of ss)
savings-fit most q [] low few known past efforts long = tt
savings-fit most q (s ∷ ss) low few known past efforts long =
    let number = known.0 in
    let quantum = past.0 in (
      (
        (omega (arith, number), omega (arith, quantum)),
        ((efforts.0.0, long.0.0), (efforts.0.1, long.0.1)),
      ),
      savings-fit most q ss low few known.1 past.1 efforts.1 long.1,
    )

-- numbers of those who live
ids-fit : (most : ℕ) (living : List Creature) (ids : List ℕ) → most < COUNT_END → AreHere living ids → Each (λ c. (1 ≤ c.id) × (c.id < most)) living
    → Each Long ids
ids-fit most living [] low h numbers = tt
ids-fit most living (id ∷ ids) low h numbers =
    let one = each-one (λ c. (1 ≤ c.id) × (c.id < most)) living id h.0 numbers in
    let is = one_of-id living id h.0 in
    (omega (arith, one.1, is), ids-fit most living ids low h.1 numbers)

parts-fit : (w : World) → IsSound w → FitsTypes w → StateFits (parts_of_world w)
parts-fit w s t =
    let most = w.settings.soup.1 in
    let past = s.quanta in
    let next = s.next_birth in
    let count = s.genotype_count in
    let births = s.births in
    let dead = s.living_and_dead in
    let slicer = are-here w.living w.slicer s.slicer in
    let reaper = are-here w.living w.reaper s.reaper in
    let low : w.next_birth < COUNT_END = omega (arith, past, next) in
    let few : length w.genotypes < COUNT_END = omega (arith, count, low) in
    let line : All CreatureFits (line_of w) = all_from_each CreatureFits (line_of w) (line-fits w s t w.slicer slicer) in
    let stored : All FoundFits (map found_of w.genotypes) = all_from_each FoundFits (map found_of w.genotypes)
    (stored-fit (2 ^ 40 + 10000 * w.quanta) 0 w.genotypes (limit-small w.quanta past) (omega (arith, few)) s.parents
    (each_from_all (λ g. IsCode g.code) w.genotypes s.written) (each_from_all (λ g. g.total ≤ 2 ^ 40 + 10000 * w.quanta) w.genotypes s.totals)
    (each_from_all (λ g. AreEfforts g.first_effort g.second_effort) w.genotypes s.efforts) (each_from_all HasLongNumbers w.genotypes t.genotypes)) in
    let saved : All SavingFits (map stored_of w.saved) = all_from_each SavingFits (map stored_of w.saved)
    (savings-fit (length w.genotypes) w.quanta w.saved few past (each_from_all (λ s. s.genotype < length w.genotypes) w.saved (sound-saved_below w s))
    (each_from_all (λ s. s.quantum ≤ w.quanta) w.saved s.past) (each_from_all (λ s. AreEfforts s.first_effort s.second_effort) w.saved s.saved_efforts)
    (each_from_all (λ s. IsLongEffort s.first_effort × IsLongEffort s.second_effort) w.saved t.savings)) in (
      omega (arith, s.cells, most),
      (
        ((omega (arith, past), omega (arith, births, low)), (omega (arith, dead, low), omega (arith, low))),
        (
          (omega (arith, line-length w s, t.living), line),
          ((
            (
              length-reaper w s ∙ sym (line-length w s),
              all_from_each Long w.reaper (ids-fit w.next_birth w.living w.reaper low reaper
                  (each_from_all (λ c. (1 ≤ c.id) × (c.id < w.next_birth)) w.living s.numbers)),
            ),
            (
              (omega (arith, length-map w.genotypes found_of, few), stored),
              (omega (arith, length-map w.saved stored_of, t.saved), saved),
            ),
          )),
        ),
      ),
    )

pub read_back : (chosen : Settings) (bytes : List ℕ) (w : World) → AreBytesOf chosen bytes w → state_at bytes ≡ Some (parts_of_world w, [])
read_back chosen bytes w are =
    ap state_at (sym are.bytes ∙ same-text w are.sound ∙ sym (append-nil (state_text (parts_of_world w))))
    ∙ reads_state.again (parts_of_world w) [] (parts-fit w are.sound are.types)

-- ---- what is made of the parts

pub none_told : (chosen : Settings) (bytes : List ℕ) (e : Stop) → Stops e (state_at bytes) → e ≡ stop.Malformed
    → (w : World) → AreBytesOf chosen bytes w → ⊥
none_told chosen bytes stop.NoMemory none is w are = absurd cc
none_told chosen bytes stop.Malformed none is w are = (let some = read_back chosen bytes w are in cc)

pub genotypes-again : (gs : List Genotype) → genotypes_of (map found_of gs) ≡ gs
genotypes-again [] = refl
genotypes-again (g ∷ gs) = ap (λ (l : List Genotype). g ∷ l) (genotypes-again gs)

pub savings-again : (ss : List ModelSaving) → savings_of (map stored_of ss) ≡ ss
savings-again [] = refl
savings-again (s ∷ ss) = ap (λ (l : List ModelSaving). s ∷ l) (savings-again ss)

abbrev there : StateParts × List ℕ → Option (StateParts × List ℕ)
there p = Some p

pub first_is : (x y : StateParts) (xs ys : List ℕ) → there (x, xs) ≡ there (y, ys) → x ≡ y
first_is x y xs ys e = ap (λ (o : Option (StateParts × List ℕ)). (unwrap_or o (x, xs)).0) e

-- the world of the parts, with the living in this order
abbrev pub made_of : Settings → StateParts → List Creature → List ℕ → World
made_of chosen parts living slicer =
    record {
      settings = chosen;
      soup = parts.0;
      living = living;
      slicer = slicer;
      reaper = parts.1.1.1.0;
      genotypes = genotypes_of parts.1.1.1.1.0;
      saved = savings_of parts.1.1.1.1.1;
      births = parts.1.0.0.1;
      deaths = parts.1.0.1.0;
      next_birth = parts.1.0.1.1;
      quanta = parts.1.0.0.0;
    }

made_again : (chosen : Settings) (bytes : List ℕ) (w : World) (living : List Creature) (slicer : List ℕ) → AreBytesOf chosen bytes w
    → IsPermutation (line_of w) living → IsNonDecreasingBy (λ (c : Creature). c.id) living → slicer ≡ ids_of (line_of w)
    → made_of chosen (parts_of_world w) living slicer ≡ w
made_again chosen bytes w living slicer are moved up ids =
    let s = are.sound in
    let same = sorted-again w living s moved up in
    let queue : slicer ≡ w.slicer = ids ∙ ids-of_line w.living w.slicer (are-here w.living w.slicer s.slicer) in
    (λ i. record w {
      settings = sym are.settings i;
      living = same i;
      slicer = queue i;
      genotypes = genotypes-again w.genotypes i;
      saved = savings-again w.saved i;
    })

pub draft_is : (chosen : Settings) (bytes : List ℕ) (parts : StateParts) (rest : List ℕ) (living : List Creature) (slicer : List ℕ)
    → state_at bytes ≡ Some (parts, rest) → IsPermutation parts.1.1.0 living → IsNonDecreasingBy (λ (c : Creature). c.id) living
    → slicer ≡ ids_of parts.1.1.0 → (w : World) → AreBytesOf chosen bytes w → made_of chosen parts living slicer ≡ w
draft_is chosen bytes parts rest living slicer read moved up ids w are =
    let same : parts ≡ parts_of_world w = first_is parts (parts_of_world w) rest [] (sym read ∙ read_back chosen bytes w are) in
    subst (λ (p : StateParts). IsPermutation p.1.1.0 living → slicer ≡ ids_of p.1.1.0 → made_of chosen p living slicer ≡ w) (sym same)
    (λ moved ids. made_again chosen bytes w living slicer are moved up ids) moved ids
