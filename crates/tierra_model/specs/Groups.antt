-- The ranges of a group of the genebank.
use Rattle.std.specs.Prelude.{ℕ, ◌+◌, ◌^◌, ◌<◌, ◌≡◌, ◌≤◌, All, IfSome, List, length, None}
use Rattle.tierra_model.specs.declared.limits.TheConstants.{COUNT_END, MOST_SIZE}
use Rattle.tierra_model.specs.declared.genebank.Form.{Form}
use Rattle.tierra_model.specs.declared.genebank.Form.TheVariants as form
use Rattle.tierra_model.specs.declared.genebank.Name.{Name}
use Rattle.tierra_model.specs.declared.genebank.Saved.{Saved}
use Rattle.tierra_model.specs.Counting.{sum_of}
use Rattle.tierra_model.specs.Ranges.{AreEfforts, IsCode}

-- the fields of a Group
pub record GroupFields : Type 0 where
  pub quantum : ℕ
  pub form : Form
  pub saved : List Saved

abbrev pub IsName : Name → Type 0
IsName n = (1 ≤ n.size) × (n.size ≤ MOST_SIZE) × (n.rank < COUNT_END)

-- form One has no efforts, and in form Two each effort counts at least one instruction
abbrev pub EffortsIn : Form → Saved → Type 0
EffortsIn form.One s = (s.first ≡ None) × (s.second ≡ None)
EffortsIn form.Two s = AreEfforts s.first s.second

-- one saved genotype of a group of the form
pub record IsSaved (f : Form) (s : Saved) : Type 0 where
  pub name : IsName s.name
  pub sized : s.name.size ≡ length s.code
  pub code : IsCode s.code
  pub parent : IfSome s.parent IsName
  pub efforts : EffortsIn f s

-- how many bytes a genotype's two efforts take in the form
abbrev pub efforts_size : Form → ℕ
efforts_size form.One = 0
efforts_size form.Two = 32

-- how many bytes a payload has: for the quantum and the number of genotypes, and for each genotype its size, its rank,
-- its parent's size and rank, its efforts and its code
abbrev pub payload_size : GroupFields → ℕ
payload_size g = 8 + 4 + sum_of (λ s. 4 + 8 + 4 + 8 + efforts_size g.form + length s.code) g.saved

pub record IsGroup (g : GroupFields) : Type 0 where
  pub some : 0 < length g.saved
  pub each : All (IsSaved g.form) g.saved
  pub payload : payload_size g < 2 ^ 31
