-- Maps as functions, and how a change of one entry leaves them.
use Rattle.std.specs.Prelude.{ℕ, ◌≡◌, ◌≢◌, List, Option, Some, None, String}
use Rattle.std.specs.BTreeMap.{BTreeMap, get_by_text, is_at}
use Rattle.std.specs.Map.{lookup}
use Rattle.std.specs.Ordering.{nat_cmp}

-- what the entries have at the number
abbrev pub entry_at : {X : Type 0} → List (ℕ × X) → ℕ → Option X
entry_at entries number = lookup (is_at (nat_cmp number)) entries

-- what the map has at the text
abbrev pub text_at : {X Y : Type 0} → BTreeMap (String Y) X → List ℕ → Option X
text_at map text = get_by_text map text

-- the map with that value there
pub record Sets {K X : Type 0} (old : K → Option X) (key : K) (value : X) (new : K → Option X) :
    Type 0 where
  pub here : new key ≡ Some value
  pub others : (other : K) → other ≢ key → new other ≡ old other

-- the map without a value there
pub record Lacks {K X : Type 0} (old : K → Option X) (key : K) (new : K → Option X) : Type 0 where
  pub here : new key ≡ None
  pub others : (other : K) → other ≢ key → new other ≡ old other
