-- Laws of soup files.
use Rattle.std.specs.Prelude.{◌≡◌, List, ℕ, Ok, pos}
use Rattle.toml.specs.Data.{Members, array, integer, item, member, no_items, no_members, string, table}
use Rattle.tierra_model.specs.Setups.{SetupFields, setup_for}
use Rattle.tierra_asm.specs.Listing.{listing_of}
use Rattle.soup_file.specs.declared.fault.FileFault.{FileFault}
use Rattle.soup_file.specs.declared.key.Key.TheVariants.{At, Code, Creature}
use Rattle.soup_file.specs.Keys.{name_of}
use Rattle.soup_file.specs.SoupFile.{IsDocument, IsFaultOf, IsSoupFile}

-- bytes spell at most one setup and have at most one fault, and never both
pub record SoupFilesAreClear : Type 0 where
  pub one_setup : (bytes : List ℕ) (one other : SetupFields) → IsSoupFile bytes one → IsSoupFile bytes other
      → one ≡ other
  pub one_fault : (bytes : List ℕ) (one other : FileFault) → IsFaultOf bytes one → IsFaultOf bytes other → one ≡ other
  pub no_fault : (bytes : List ℕ) (setup : SetupFields) (fault : FileFault) → IsSoupFile bytes setup
      → IsFaultOf bytes fault → ⊥

-- the document with one creature at 0 with this listing, and nothing else
abbrev pub one_creature : List ℕ → Members
one_creature text =
    member (name_of Creature)
    (array (item (table (member (name_of At) (integer (pos 0)) (member (name_of Code) (string text) no_members)))
    no_items))
    no_members

-- The bytes of that document spell the setup that `grow` makes from the listing, and no other.
pub record OneCreatureIsGrown : Type 0 where
  pub is_grown : (bytes text code : List ℕ) → IsDocument bytes (one_creature text) → listing_of text ≡ Ok code
      → IsSoupFile bytes (setup_for code)
  pub is_alone : (bytes text code : List ℕ) (setup : SetupFields) → IsDocument bytes (one_creature text)
      → listing_of text ≡ Ok code → IsSoupFile bytes setup → setup ≡ setup_for code
