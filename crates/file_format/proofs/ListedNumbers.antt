-- Numbers in a JSON list are read from its text again, and the text is short.
use Rattle.std.proofs.Common.{ℕ, ◌≡◌, ◌<◌, ◌≤◌, ◌+◌, ◌*◌, ◌^◌, List, [], ◌∷◌, ◌++◌, Bool, true}
use Rattle.std.proofs.Common.{false, Some, suc, length, decimal, refl, arith}
use Rattle.std.proofs.Common.{length-append}
use Rattle.std.specs.List.{slice_get}
use Rattle.json.specs.Tree as tree
use Rattle.serde_json.specs.Read.{of_items}
use Rattle.serde_json.specs.Written.{items_outline, items_text, comma_if}
use Rattle.serde_json.proofs.Numbers.{number_of-decimal}
use Rattle.file_format.specs.Members.{numbers_in}
use Rattle.file_format.specs.Texts.{numbers_data}
use Rattle.file_format.proofs.Compact.{AreSimple, length-digits}

-- each number has at most 64 bits
abbrev pub AreSmall : List ℕ → Type 0
AreSmall numbers = (k n : ℕ) → slice_get numbers k ≡ Some n → n < 2 ^ 64

others : (n : ℕ) (numbers : List ℕ) → AreSmall (n ∷ numbers) → AreSmall numbers
others n numbers h = λ k m e. h (suc k) m e

pub numbers_simple : (numbers : List ℕ) → AreSmall numbers → AreSimple (numbers_data numbers)
numbers_simple [] h = tt
numbers_simple (n ∷ numbers) h = (omega (arith, h 0 n refl), numbers_simple numbers (others n numbers h))

pub numbers_back : (numbers : List ℕ) → AreSmall numbers → of_items (items_outline (numbers_data numbers)) ≡ Some (numbers_data numbers)
numbers_back [] h = refl
numbers_back (n ∷ numbers) h = rw (number_of-decimal n (omega (arith, h 0 n refl)), numbers_back numbers (others n numbers h)) refl

pub numbers_depth : (numbers : List ℕ) → tree.items_depth (items_outline (numbers_data numbers)) ≤ 0
numbers_depth [] = omega arith
numbers_depth (n ∷ numbers) = omega (arith, numbers_depth numbers)

pub numbers_there : (numbers : List ℕ) → numbers_in (numbers_data numbers) ≡ Some numbers
numbers_there [] = refl
numbers_there (n ∷ numbers) = rw (numbers_there numbers) refl

comma_length : (later : Bool) → length (comma_if later) ≤ 1
comma_length true = omega arith
comma_length false = omega arith

-- a number has at most 20 digits, and a comma before it
pub numbers_length : (later : Bool) (numbers : List ℕ) → AreSmall numbers → length (items_text later (numbers_data numbers))
    ≤ 21 * length numbers + 1
numbers_length later [] h = omega arith
numbers_length later (n ∷ numbers) h =
    let rest = items_text true (numbers_data numbers) in
    omega (
      arith,
      length-append (comma_if later) (decimal n ++ rest),
      length-append (decimal n) rest,
      comma_length later,
      length-digits n (omega (arith, h 0 n refl)),
      numbers_length true numbers (others n numbers h),
    )
