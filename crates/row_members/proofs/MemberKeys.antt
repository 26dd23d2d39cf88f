-- What the key of a member is to the lexer of JSON.
use Rattle.std.proofs.Common.{◌≡◌, ◌≤◌, ◌+◌, ◌-◌, ◌++◌, ◌∷◌, [], ℕ, suc, List, true}
use Rattle.std.proofs.Common.{drop, length, Option, refl, sym, ap, ap₂}
use Rattle.std.proofs.Common.{◌∙◌, arith, append_assoc, length-append}
use Rattle.std.specs.List.{list_all}
use Rattle.std.proofs.lemmas.List.{drop-drop, length-drop}
use Rattle.json.specs.Lex.{Lexeme, token, colon, lex, between}
use Rattle.json.specs.Token.{string}
use Rattle.row_members.specs.declared.name.Name.{Name}
use Rattle.row_members.specs.declared.name.Name.TheVariants.{Call, Client, Do, Hall, Key, Number, Row, Value, Writer}
use Rattle.row_members.specs.Names.{text_of}
use Rattle.row_members.specs.Scans.{is_plain, Skips, Passes, Holds, HoldsName}
use Rattle.row_members.specs.Scans.{IsNamed, HoldsKey}
use Rattle.row_members.proofs.Pieces.{lex_plain, skip_holds}

colon_first : (r : List ℕ) → lex between (58 ∷ r) ≡ colon ∷ lex between r
unfolding lex
colon_first r = refl

-- a key, its colon, and white space before them
pub keyed : (line key : List ℕ) (start from end next : ℕ) (name : Option Name) → Skips line start from
    → Holds line from (token (string key) ∷ []) end → IsNamed key name → Passes line end 58 next → HoldsKey line start name next
keyed line key start from end next name skipped h named passed = (
  key,
  named,
  record {
    ahead = omega (arith, skipped.ahead, h.ahead, passed.ahead);
    within = passed.within;
    lexed = skipped.lexed ∙ h.lexed
        ∙ ap (λ (l : List Lexeme). token (string key) ∷ l) (passed.lexed ∙ colon_first (drop next line));
  },
)

pub skip_none : (line : List ℕ) (at : ℕ) → at ≤ length line → Skips line at at
skip_none line at within = record { ahead = omega arith; within = within; lexed = refl }

pub skip_key : (line : List ℕ) (start at end : ℕ) (name : Option Name) → Skips line start at → HoldsKey line at name end
    → HoldsKey line start name end
skip_key line start at end name skipped h = (h.0, h.1, skip_holds line start at end (token (string h.0) ∷ colon ∷ []) skipped h.2)

name_plain : (name : Name) → list_all is_plain (text_of name) ≡ true
name_plain Call = refl
name_plain Client = refl
name_plain Do = refl
name_plain Hall = refl
name_plain Key = refl
name_plain Number = refl
name_plain Row = refl
name_plain Value = refl
name_plain Writer = refl

pub name_holds : (line bytes quoted : List ℕ) (at count : ℕ) (name : Name) → bytes ≡ drop at line → at ≤ length line
    → quoted ≡ 34 ∷ (text_of name ++ 34 ∷ []) → bytes ≡ quoted ++ drop count bytes → count ≤ length bytes
    → HoldsName line at name (at + count)
name_holds line bytes quoted at count name cut within is begins inside =
    let rest = drop (at + count) line in
    let behind : drop count bytes ≡ rest = ap (drop count) cut ∙ drop-drop count at line in
    let long : length bytes ≡ length line - at = ap length cut ∙ length-drop at line in
    let size : length bytes ≡ length quoted + length (drop count bytes) = ap length begins ∙ length-append quoted (drop count bytes) in
    let some : length quoted ≡ suc (length (text_of name ++ 34 ∷ [])) = ap length is in
    let left : length (drop count bytes) ≡ length bytes - count = length-drop count bytes in
    let whole : drop at line ≡ 34 ∷ (text_of name ++ 34 ∷ rest) =
    sym cut ∙ begins ∙ ap₂ (λ (a b : List ℕ). a ++ b) is behind
    ∙ ap (λ (l : List ℕ). 34 ∷ l) (append_assoc (text_of name) (34 ∷ []) rest) in
    record {
      ahead = omega (arith, size, some, left, inside);
      within = omega (arith, inside, long);
      lexed = ap (lex between) whole ∙ lex_plain (text_of name) rest (name_plain name);
    }
