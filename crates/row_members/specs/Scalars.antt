-- The members' values that are read here: null, a text, or a whole number below 2^64.
use Rattle.std.specs.Prelude.{◌<◌, ◌^◌, ℕ, List, decimal}
use Rattle.json.specs.Token as token
use Rattle.json.specs.Token.{Token}
use Rattle.serde_json.specs.Data.{Data, null, number, string, unsigned}

-- null, a text, or a number with its bound
pub data Scalar : Type 0 where
  nothing : Scalar
  text : List ℕ → Scalar
  digits : (n : ℕ) → n < 2 ^ 64 → Scalar

-- the token that stands for it in a line
abbrev pub token_of : Scalar → Token
token_of nothing = token.null
token_of (text s) = token.string s
token_of (digits n fits) = token.number (decimal n)

-- the value that it is
abbrev pub data_of : Scalar → Data
data_of nothing = null
data_of (text s) = string s
data_of (digits n fits) = number (unsigned n)
