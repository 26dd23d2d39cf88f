-- Beginnings of JSON texts, and parts of lines.
use Rattle.std.proofs.Common.{ℕ, ◌≡◌, ◌<◌, ◌≤◌, ◌+◌, ◌-◌, List, [], ◌++◌, length, take, drop, refl, sym, ap, ◌∙◌, append_assoc, arith, subst}
use Rattle.std.specs.Prelude.{Option, Some, IsUtf8, unwrap_or, codes}
use Rattle.std.proofs.Math.Seq.{take-length}
use Rattle.std.proofs.lemmas.List.{take-append-drop}
use Rattle.serde_json.proofs.OnLiterals.{serde_json_on_literals}
use Rattle.serde_json.specs.Data.{Data, null}
use Rattle.serde_json.specs.Read.{read}
use Rattle.row_members.specs.Values.{IsJson, HasValue, value_of}
use Rattle.fault_details.specs.declared.json_line.Broken.TheVariants as broken
use Rattle.fault_details.specs.Beginnings.{BeginsJson, HasText, IsReason}
use Rattle.fault_details.specs.Written.{IsPart}

-- a line that is the beginning of a JSON text ends too soon
pub ends_early : (line : List ℕ) (place : ℕ) → place ≡ length line → HasText line → BeginsJson (take place line)
    → IsReason line broken.EndsEarly
ends_early line place e text begins =
    (text, subst BeginsJson (ap (λ (n : ℕ). take n line) e ∙ take-length line) begins)

same_place : (place : ℕ) → place ≡ place + 1 - 1
same_place place = omega arith

next_in : (place n : ℕ) → place < n → place + 1 ≤ n
next_in place n inside = omega (arith, inside)

-- a line that is one up to a byte stops there
pub stops_at : (line : List ℕ) (place : ℕ) → place < length line → HasText line → BeginsJson (take place line)
    → IsReason line (broken.Invalid (place + 1))
stops_at line place inside text begins =
    let some : 0 < place + 1 = omega arith in
    let up_to : BeginsJson (take (place + 1 - 1) line) =
    subst (λ (n : ℕ). BeginsJson (take n line)) (same_place place) begins in
    (text, some, next_in place (length line) inside, up_to)

-- bytes that are read as a value are JSON of it
pub json_there : (bytes : List ℕ) (d : Data) → IsUtf8 bytes → read bytes ≡ Some d → HasValue bytes
json_there bytes d text e = (text, e ∙ ap (λ (v : Data). Some v) (sym (ap (λ (o : Option Data). unwrap_or o null) e)))

-- what was gone on with
pub continued : (line text mid rest : List ℕ) (place : ℕ) → text ≡ (take place line ++ mid) ++ rest → HasValue text
    → BeginsJson (take place line)
continued line text mid rest place e json = record {
  rest = mid ++ rest;
  value = value_of text;
  json = subst (λ (t : List ℕ). IsJson t (value_of text)) (e ∙ append_assoc (take place line) mid rest) json;
}

-- so many bytes from a place on
pub part_of : (line : List ℕ) (n k : ℕ) → IsPart line (take n (drop k line))
part_of line n k = record {
  before = take k line;
  after = drop n (drop k line);
  place = sym (take-append-drop k line) ∙ ap (λ (xs : List ℕ). take k line ++ xs) (sym (take-append-drop n (drop k line)));
}

-- no byte is the beginning of `null`
pub begins_any : (line : List ℕ) → BeginsJson (take 0 line)
unfolding serde_json_on_literals
begins_any line = record {
  rest = codes "null";
  value = null;
  json = ((codes "null", (refl, refl)), refl);
}

-- three pieces, put together
pub joined : (none one two three text front mid rest : List ℕ) → none ≡ [] → one ≡ none ++ front → two ≡ one ++ mid
    → three ≡ two ++ rest → text ≡ three → text ≡ (front ++ mid) ++ rest
joined none one two three text front mid rest e0 e1 e2 e3 e4 =
    e4 ∙ e3 ∙ ap (λ (xs : List ℕ). xs ++ rest) (e2 ∙ ap (λ (xs : List ℕ). xs ++ mid) (e1 ∙ ap (λ (xs : List ℕ). xs ++ front) e0))
