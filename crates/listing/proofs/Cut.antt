-- What stands behind the first byte with no address changes no listing.
-- Assumes nothing.
use Rattle.std.proofs.Common.{◌≡◌, ℕ, ◌<◌, ltb, List, length, take, ap, arith, length-take-le, take_all, ltb-false, ltb-true, lt-ltb}
use Rattle.basis.proofs.Choice.{test}
use Rattle.listing.specs.Listing.{listing_of}
use Rattle.listing.specs.Laws.{CutListing}

longer : (p : List ℕ) → 131073 < length p → listing_of (take 131073 p) ≡ listing_of p
longer p h =
    let e : length (take 131073 p) ≡ 131073 = length-take-le 131073 p (omega arith) in
    rw (lt-ltb 131072 (length (take 131073 p)) (omega arith), lt-ltb 131072 (length p) (omega arith))

pub cut_listing : CutListing
cut_listing p =
    test (ltb 131073 (length p)) (λ e. longer p (ltb-true 131073 (length p) e))
    λ e. ap listing_of (take_all 131073 p (ltb-false 131073 (length p) e))
