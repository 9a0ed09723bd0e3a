use Rattle.std.specs.Prelude.{ℕ}
use Rattle.listing.specs.declared.fault.ListingFault.{ListingFault}
use Rattle.listing.specs.declared.fault.ListingFault.TheVariants.{ShortBuffer}

-- the number of each fault
abbrev pub listing_number : ListingFault → ℕ
listing_number ShortBuffer = 63
