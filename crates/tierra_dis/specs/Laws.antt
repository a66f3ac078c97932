-- Laws of listings.
use Rattle.std.specs.Prelude.{List, ℕ, ◌≡◌, Ok}
use Rattle.std.specs.Prelude.{IsOkAnd}
use Rattle.tierra_model.specs.Ranges.{IsCode}
use Rattle.tierra_asm.specs.Listing.{listing_of}
use Rattle.tierra_dis.specs.Disassembly.{listing_text}

-- the listing of a code assembles to the code
abbrev pub ListingsReadBack : Type 0
ListingsReadBack = (code : List ℕ) → IsCode code → IsOkAnd (listing_text code) (λ text. listing_of text ≡ Ok code)
