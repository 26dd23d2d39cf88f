-- What a replica keeps for each key (Attiya, Bar-Noy and Dolev 1995, with the tags of Lynch and
-- Shvartsman 1997).
use Rattle.std.specs.Prelude.{ℕ, List, None, unwrap_or, if◌then◌else◌}
use Rattle.std.specs.Ordering.{nat_cmp, is_lt}
use Rattle.std.specs.Cmp.Lexicographic.{slice_cmp}
use Rattle.std.specs.FinMap as finite
use Rattle.tag.specs.Tags.{least, tag_cmp}
-- a tag with the value that was written under it, or absent
pub use Rattle.replica.specs.declared.pairs.Pair.{Pair}

-- the pair of a key which nobody wrote: the least tag, and absent
abbrev pub no_pair : Pair
no_pair = record { tag = least; value = None }

-- a finite map from keys to pairs
abbrev pub Pairs : Type 0
Pairs = finite.FinMap (slice_cmp nat_cmp) Pair

-- the pair of a key; a key outside the map is one which nobody wrote
abbrev pub pair_of : Pairs → List ℕ → Pair
pair_of pairs key = unwrap_or (finite.get pairs key) no_pair

-- a pair is adopted for a key if its tag is above that of the key's own pair; otherwise nothing
-- changes
abbrev pub adopt : Pairs → List ℕ → Pair → Pairs
adopt pairs key pair =
    if is_lt (tag_cmp (pair_of pairs key).tag pair.tag) then finite.insert pairs key pair else pairs
