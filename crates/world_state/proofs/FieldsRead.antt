-- Each field of a world is read exactly where it is written.
use Rattle.std.proofs.Common.{◌≡◌, ◌∙◌, refl, ap, subst, ℕ, ℤ, ◌+◌, ◌<◌, ◌≤◌, ◌^◌, arith, Bool, true, false, List, [], ◌∷◌, ◌++◌, length, Option, Some}
use Rattle.std.proofs.Common.{None, FitsSigned, append_assoc, if◌then◌else◌, sym, ◌-◌}
use Rattle.std.specs.Prelude.{IfSome, ◌==◌}
use Rattle.std.specs.Int.{cast_signed, cast_unsigned, w32}
use Rattle.std.specs.List.{flat_map}
use Rattle.std.proofs.Math.Facts.{Fits-lt-pow, Fits-of_z}
use Rattle.std.proofs.lemmas.Bool.Decides.{nat_tests}
use Rattle.std.proofs.lemmas.Int.{of_z-to_z, to_z-of_z}
use borrow.Author.Gap.{read_sfits}
use Rattle.byte_fields.specs.Exact.{Reads}
use Rattle.byte_fields.specs.Reading.{both, byte_at, efforts_at, eight_at, eights_at, four_at, fours_at, list_at, only_if, sized_at}
use Rattle.byte_fields.specs.Writing.{effort_bytes, eight, four}
use Rattle.byte_fields.proofs.Exact.{Listed, reads_list, reads_made, reads_made_if, reads_pair, some_is}
use Rattle.byte_fields.proofs.Fields.{AreEfforts, Long, LongPair, Short, ShortPair, efforts_text, eights_text, fours_text, reads_byte, reads_efforts}
use Rattle.byte_fields.proofs.Fields.{reads_eight, reads_eights, reads_four, reads_fours, reads_sized, sized_text}
use Rattle.tierra_model.specs.declared.creatures.Block.{Block}
use Rattle.tierra_model.specs.declared.creatures.Creature.{Creature}
use Rattle.tierra_model.specs.declared.creatures.Effort.{Effort}
use Rattle.world_state.specs.declared.fields.StoredGenotype.{StoredGenotype}
use Rattle.world_state.specs.declared.saving.Saving.{Saving}
use Rattle.world_state.specs.StateBytes.{block_bytes, body_bytes, count_bytes, creature_bytes, daughter_bytes, genotype_bytes, parent_bytes, processor_bytes}
use Rattle.world_state.specs.StateBytes.{register_bytes, registers_bytes, saving_bytes, stack_bytes}
use Rattle.world_state.specs.Reading.{Body, Counts, CreatureParts, Details, FoundParts, Processor, Registers, SavingParts, Stack, block_at, block_from, body_at}
use Rattle.world_state.specs.Reading.{counts_at, creature_at, creature_from, daughter_at, daughter_from, details_at, found_at, found_from, genotype_of}
use Rattle.world_state.specs.Reading.{parent_at, parent_from, processor_at, register_at, registers_at, saving_at, saving_from, stack_at, two_registers_at}
use Rattle.world_state.specs.Savings.{saving_of}

-- texts one after another, in either grouping
pub grouped-3 : (a b c : List ℕ) → a ++ (b ++ c) ≡ a ++ b ++ c
grouped-3 a b c = simp append_assoc

grouped-4 : (a b c d : List ℕ) → a ++ (b ++ (c ++ d)) ≡ a ++ b ++ c ++ d
grouped-4 a b c d = simp append_assoc

pub grouped-6 : (a b c d e f : List ℕ) → a ++ (b ++ (c ++ (d ++ (e ++ f)))) ≡ a ++ b ++ c ++ d ++ e ++ f
grouped-6 a b c d e f = simp append_assoc

grouped-7 : (a b c d e f g : List ℕ) → (a ++ b) ++ (c ++ (d ++ (e ++ (f ++ g)))) ≡ a ++ b ++ c ++ d ++ e ++ f ++ g
grouped-7 a b c d e f g = simp append_assoc

-- ---- creatures

reads_register : Reads (FitsSigned w32) register_bytes register_at
unfolding register_at register_bytes
reads_register =
    reads_made Short four (cast_signed w32) (FitsSigned w32) register_bytes four_at
    (record {
      from = λ n short. (read_sfits w32 n, ap four (sym (of_z-to_z w32 n short)));
      back = λ v fits. (cast_unsigned w32 v, Fits-lt-pow (Fits-of_z fits), to_z-of_z w32 v fits, refl);
    })
    reads_four

abbrev IsShortBlock : Block → Type 0
IsShortBlock b = Short b.at × Short b.size

reads_block : Reads IsShortBlock block_bytes block_at
unfolding block_at block_bytes
reads_block =
    reads_made ShortPair fours_text block_from IsShortBlock block_bytes fours_at
    (record { from = λ p h. (h, refl); back = λ b h. ((b.at, b.size), h, refl, refl) }) reads_fours

abbrev IsShortDaughter : Option Block → Type 0
IsShortDaughter o = IfSome o (λ (b : Block). IsShortBlock b × (1 ≤ b.size))

is_zero : (a : ℕ) → (a == 0) ≡ true → a ≡ 0
is_zero a e = grind (arith, nat_tests)

is_not_zero : (a : ℕ) → (a == 0) ≡ false → 1 ≤ a
is_not_zero a e = grind (arith, nat_tests)

not_zero : (a : ℕ) → 1 ≤ a → (a == 0) ≡ false
not_zero a le = grind (arith, nat_tests)

daughter_made : (none first : Bool) (at size : ℕ) (o : Option Block) → ShortPair (at, size)
    → (none ≡ true → size ≡ 0) → (first ≡ true → at ≡ 0) → (none ≡ false → 1 ≤ size)
    → (if none then only_if first None else Some (Some (record { at = at; size = size }))) ≡ Some o
    → IsShortDaughter o × (fours_text (at, size) ≡ daughter_bytes o)
unfolding daughter_bytes
daughter_made true true at size o fits none first some e =
    let is : Option Block = None in
    subst (λ (x : Option Block). IsShortDaughter x × (fours_text (at, size) ≡ daughter_bytes x)) (some_is is o e)
    (tt, rw (none refl, first refl) refl)
daughter_made true false at size o fits none first some e = absurd cc
daughter_made false first at size o fits none first' some e =
    let is : Option Block = Some (record { at = at; size = size }) in
    subst (λ (x : Option Block). IsShortDaughter x × (fours_text (at, size) ≡ daughter_bytes x)) (some_is is o e)
    ((fits, some refl), refl)

daughter_back : (o : Option Block) → IsShortDaughter o
    → (p : ℕ × ℕ) × ShortPair p × (daughter_from p ≡ Some o) × (fours_text p ≡ daughter_bytes o)
unfolding daughter_bytes
daughter_back None is = ((0, 0), (omega arith, omega arith), refl, refl)
daughter_back (Some b) is =
    let p : ℕ × ℕ = (b.at, b.size) in
    let some = not_zero b.size is.1 in
    (p, is.0, rw some refl, refl)

reads_daughter : Reads IsShortDaughter daughter_bytes daughter_at
unfolding daughter_at
reads_daughter =
    reads_made_if ShortPair fours_text daughter_from IsShortDaughter daughter_bytes fours_at
    (record {
      from = λ p o fits e.
          daughter_made (p.1 == 0) (p.0 == 0) p.0 p.1 o fits (is_zero p.1) (is_zero p.0) (is_not_zero p.1) e;
      back = daughter_back;
    })
    reads_fours

abbrev BodyFits : Body → Type 0
BodyFits p = Long p.0 × (IsShortBlock p.1.0 × (IsShortDaughter p.1.1.0 × Long p.1.1.1))

abbrev body_text : Body → List ℕ
body_text p = eight p.0 ++ (block_bytes p.1.0 ++ (daughter_bytes p.1.1.0 ++ eight p.1.1.1))

reads_body : Reads BodyFits body_text body_at
unfolding body_at
reads_body =
    reads_pair Long eight eight_at
    (λ (p : Block × (Option Block × ℕ)). IsShortBlock p.0 × (IsShortDaughter p.1.0 × Long p.1.1))
    (λ p. block_bytes p.0 ++ (daughter_bytes p.1.0 ++ eight p.1.1)) (both block_at (λ _. both daughter_at (λ _. eight_at)))
    reads_eight
    (reads_pair IsShortBlock block_bytes block_at (λ (p : Option Block × ℕ). IsShortDaughter p.0 × Long p.1)
    (λ p. daughter_bytes p.0 ++ eight p.1) (both daughter_at (λ _. eight_at)) reads_block
    (reads_pair IsShortDaughter daughter_bytes daughter_at Long eight eight_at reads_daughter reads_eight))

abbrev TwoFit : ℤ × ℤ → Type 0
TwoFit p = FitsSigned w32 p.0 × FitsSigned w32 p.1

abbrev two_text : ℤ × ℤ → List ℕ
two_text p = register_bytes p.0 ++ register_bytes p.1

reads_two : Reads TwoFit two_text two_registers_at
unfolding two_registers_at
reads_two = reads_pair (FitsSigned w32) register_bytes register_at (FitsSigned w32) register_bytes register_at reads_register reads_register

abbrev RegistersFit : Registers → Type 0
RegistersFit p = TwoFit p.0 × TwoFit p.1

abbrev registers_text : Registers → List ℕ
registers_text p = two_text p.0 ++ two_text p.1

reads_registers : Reads RegistersFit registers_text registers_at
unfolding registers_at
reads_registers = reads_pair TwoFit two_text two_registers_at TwoFit two_text two_registers_at reads_two reads_two

abbrev OneByte : ℕ → Type 0
OneByte n = n < 2 ^ 8

abbrev TenFit : List ℤ → Type 0
TenFit words = Listed (FitsSigned w32) 10 words

abbrev StackFits : Stack → Type 0
StackFits p = TenFit p.0 × (Short p.1.0 × OneByte p.1.1)

abbrev stack_text : Stack → List ℕ
stack_text p = flat_map register_bytes p.0 ++ (four p.1.0 ++ p.1.1 ∷ [])

reads_stack : Reads StackFits stack_text stack_at
unfolding stack_at
reads_stack =
    reads_pair TenFit (flat_map register_bytes) (list_at register_at 10) (λ (p : ℕ × ℕ). Short p.0 × OneByte p.1)
    (λ p. four p.0 ++ p.1 ∷ []) (both four_at (λ _. byte_at))
    (reads_list (FitsSigned w32) register_bytes register_at reads_register 10)
    (reads_pair Short four four_at OneByte (λ n. n ∷ []) byte_at reads_four reads_byte)

abbrev ProcessorFits : Processor → Type 0
ProcessorFits p = RegistersFit p.0 × (Short p.1.0 × StackFits p.1.1)

abbrev processor_text : Processor → List ℕ
processor_text p = registers_text p.0 ++ (four p.1.0 ++ stack_text p.1.1)

reads_processor : Reads ProcessorFits processor_text processor_at
unfolding processor_at
reads_processor =
    reads_pair RegistersFit registers_text registers_at (λ (p : ℕ × Stack). Short p.0 × StackFits p.1)
    (λ p. four p.0 ++ stack_text p.1) (both four_at (λ _. stack_at)) reads_registers
    (reads_pair Short four four_at StackFits stack_text stack_at reads_four reads_stack)

abbrev CountsFit : Counts → Type 0
CountsFit p = Long p.0 × (Long p.1.0 × (Long p.1.1.0 × Long p.1.1.1))

abbrev counts_text : Counts → List ℕ
counts_text p = eight p.0 ++ (eight p.1.0 ++ (eight p.1.1.0 ++ eight p.1.1.1))

reads_counts : Reads CountsFit counts_text counts_at
unfolding counts_at
reads_counts =
    reads_pair Long eight eight_at (λ (p : ℕ × (ℕ × ℕ)). Long p.0 × (Long p.1.0 × Long p.1.1))
    (λ p. eight p.0 ++ (eight p.1.0 ++ eight p.1.1)) (both eight_at (λ _. both eight_at (λ _. eight_at))) reads_eight
    (reads_pair Long eight eight_at LongPair eights_text (both eight_at (λ _. eight_at)) reads_eight
    (reads_pair Long eight eight_at Long eight eight_at reads_eight reads_eight))

abbrev PartsFit : CreatureParts → Type 0
PartsFit p = BodyFits p.0 × (ProcessorFits p.1.0 × CountsFit p.1.1)

abbrev parts_text : CreatureParts → List ℕ
parts_text p = body_text p.0 ++ (processor_text p.1.0 ++ counts_text p.1.1)

abbrev pub parts_of : Creature → CreatureParts
parts_of c = (
  (c.id, (c.own, (c.daughter, c.moved))),
  ((((c.ax, c.bx), (c.cx, c.dx)), (c.ip, (c.stack, (c.sp, c.flag)))), (c.errors, (c.genotype, (c.ran, c.bred)))),
)

-- each number of the creature fits its field
abbrev pub CreatureFits : Creature → Type 0
CreatureFits c = PartsFit (parts_of c)

body-text : (c : Creature) → body_text (parts_of c).0 ≡ body_bytes c
unfolding body_bytes
body-text c = grouped-4 (eight c.id) (block_bytes c.own) (daughter_bytes c.daughter) (eight c.moved)

stack-text : (c : Creature) → stack_text (c.stack, (c.sp, c.flag)) ≡ stack_bytes c
unfolding stack_bytes
stack-text c = grouped-3 (flat_map register_bytes c.stack) (four c.sp) (c.flag ∷ [])

processor-text : (c : Creature) → processor_text (parts_of c).1.0 ≡ processor_bytes c
unfolding processor_bytes registers_bytes
processor-text c =
    ap (λ (l : List ℕ). registers_text (parts_of c).1.0.0 ++ (four c.ip ++ l)) (stack-text c)
    ∙ grouped-3 (registers_text (parts_of c).1.0.0) (four c.ip) (stack_bytes c)

counts-text : (c : Creature) → counts_text (parts_of c).1.1 ≡ count_bytes c
unfolding count_bytes
counts-text c = grouped-4 (eight c.errors) (eight c.genotype) (eight c.ran) (eight c.bred)

creature-text : (c : Creature) → parts_text (parts_of c) ≡ creature_bytes c
unfolding creature_bytes
creature-text c =
    (λ i. body-text c i ++ (processor-text c i ++ counts-text c i)) ∙ grouped-3 (body_bytes c) (processor_bytes c) (count_bytes c)

pub reads_creature : Reads CreatureFits creature_bytes creature_at
unfolding creature_at
reads_creature =
    reads_made PartsFit parts_text creature_from CreatureFits creature_bytes (both body_at (λ _. both processor_at (λ _. counts_at)))
    (record { from = λ p h. (h, creature-text (creature_from p)); back = λ c h. (parts_of c, h, refl, creature-text c) })
    (reads_pair BodyFits body_text body_at (λ (p : Processor × Counts). ProcessorFits p.0 × CountsFit p.1)
    (λ p. processor_text p.0 ++ counts_text p.1) (both processor_at (λ _. counts_at)) reads_body
    (reads_pair ProcessorFits processor_text processor_at CountsFit counts_text counts_at reads_processor reads_counts))

-- ---- genotypes and savings

abbrev ParentFits : Option ℕ → Type 0
ParentFits o = IfSome o (λ p. p + 1 < 2 ^ 64)

parent_made : (none : Bool) (n : ℕ) → Long n → (none ≡ true → n ≡ 0) → (none ≡ false → 1 ≤ n)
    → ParentFits (if none then None else Some (n - 1)) × (eight n ≡ parent_bytes (if none then None else Some (n - 1)))
unfolding parent_bytes
parent_made true n long zero some = (tt, ap eight (zero refl))
parent_made false n long zero some =
    let one = some refl in
    let more : n ≡ n - 1 + 1 = omega (arith, one) in
    (omega (arith, one), ap eight more)

parent_back : (o : Option ℕ) → ParentFits o → (n : ℕ) × Long n × (parent_from n ≡ o) × (eight n ≡ parent_bytes o)
unfolding parent_bytes
parent_back None h = (0, omega arith, refl, refl)
parent_back (Some p) h =
    let no = not_zero (p + 1) (omega arith) in
    let less : p + 1 - 1 ≡ p = omega arith in
    (p + 1, h, rw no (ap (λ (n : ℕ). Some n) less), refl)

reads_parent : Reads ParentFits parent_bytes parent_at
unfolding parent_at
reads_parent =
    reads_made Long eight parent_from ParentFits parent_bytes eight_at
    (record { from = λ n long. parent_made (n == 0) n long (is_zero n) (is_not_zero n); back = parent_back }) reads_eight

abbrev DetailsFit : Details → Type 0
DetailsFit p = ParentFits p.0 × (Long p.1.0 × (Long p.1.1.0 × AreEfforts p.1.1.1))

abbrev details_text : Details → List ℕ
details_text p = parent_bytes p.0 ++ (eight p.1.0 ++ (eight p.1.1.0 ++ efforts_text p.1.1.1))

reads_details : Reads DetailsFit details_text details_at
unfolding details_at
reads_details =
    reads_pair ParentFits parent_bytes parent_at (λ (p : ℕ × (ℕ × (Option Effort × Option Effort))). Long p.0 × (Long p.1.0 × AreEfforts p.1.1))
    (λ p. eight p.0 ++ (eight p.1.0 ++ efforts_text p.1.1)) (both eight_at (λ _. both eight_at (λ _. efforts_at))) reads_parent
    (reads_pair Long eight eight_at (λ (p : ℕ × (Option Effort × Option Effort)). Long p.0 × AreEfforts p.1)
    (λ p. eight p.0 ++ efforts_text p.1) (both eight_at (λ _. efforts_at)) reads_eight
    (reads_pair Long eight eight_at AreEfforts efforts_text efforts_at reads_eight reads_efforts))

abbrev FoundPartsFit : FoundParts → Type 0
FoundPartsFit p = Short (length p.0) × DetailsFit p.1

abbrev found_text : FoundParts → List ℕ
found_text p = sized_text p.0 ++ details_text p.1

abbrev found_parts : StoredGenotype → FoundParts
found_parts f = (f.code, (f.parent, (f.first_quantum, (f.total, (f.first_effort, f.second_effort)))))

abbrev pub FoundFits : StoredGenotype → Type 0
FoundFits f = FoundPartsFit (found_parts f)

found-text : (f : StoredGenotype) → found_text (found_parts f) ≡ genotype_bytes (genotype_of f)
unfolding genotype_bytes
found-text f =
    grouped-7 (four (length f.code)) f.code (parent_bytes f.parent) (eight f.first_quantum) (eight f.total)
    (effort_bytes f.first_effort) (effort_bytes f.second_effort)

pub reads_found : Reads FoundFits (λ f. genotype_bytes (genotype_of f)) found_at
unfolding found_at
reads_found =
    reads_made FoundPartsFit found_text found_from FoundFits (λ f. genotype_bytes (genotype_of f)) (both sized_at (λ _. details_at))
    (record { from = λ p h. (h, found-text (found_from p)); back = λ f h. (found_parts f, h, refl, found-text f) })
    (reads_pair (λ (code : List ℕ). Short (length code)) sized_text sized_at DetailsFit details_text details_at reads_sized reads_details)

abbrev SavingPartsFit : SavingParts → Type 0
SavingPartsFit p = LongPair p.0 × AreEfforts p.1

abbrev saving_text : SavingParts → List ℕ
saving_text p = eights_text p.0 ++ efforts_text p.1

abbrev saving_parts : Saving → SavingParts
saving_parts s = ((s.genotype, s.quantum), (s.first_effort, s.second_effort))

abbrev pub SavingFits : Saving → Type 0
SavingFits s = SavingPartsFit (saving_parts s)

pub reads_saving : Reads SavingFits (λ s. saving_bytes (saving_of s)) saving_at
unfolding saving_at saving_bytes
reads_saving =
    reads_made SavingPartsFit saving_text saving_from SavingFits (λ s. saving_bytes (saving_of s)) (both eights_at (λ _. efforts_at))
    (record { from = λ p h. (h, refl); back = λ s h. (saving_parts s, h, refl, refl) })
    (reads_pair LongPair eights_text eights_at AreEfforts efforts_text efforts_at reads_eights reads_efforts)
