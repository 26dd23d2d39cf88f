-- What white space and texts of a line are to the lexer of JSON.
use Rattle.std.proofs.Common.{◌≡◌, ◌<◌, ◌+◌, ◌-◌, ◌++◌, ◌∷◌, ℕ, List, true, ◌==◌}
use Rattle.std.proofs.Common.{drop, get_or, length, take, Option, Some, None, inl, inr, refl, sym, ap, ap₂}
use Rattle.std.proofs.Common.{◌∙◌, arith}
use Rattle.std.specs.Prelude.{IfSome}
use Rattle.std.specs.List.{list_all, slice_range}
use Rattle.std.proofs.lemmas.Bool.{or_cases, eqb-true}
use Rattle.std.proofs.lemmas.List.{drop_more, length-drop}
use Rattle.std.proofs.lemmas.List.Folds.{drop_split}
use Rattle.std.proofs.Math.Seq.{take-length}
use Rattle.json.specs.Lex.{Lexeme, token, string_token, lex, between}
use Rattle.json.specs.Token.{string}
use Rattle.json.specs.Word.{is_space}
use Rattle.json.proofs.Printed.Strings.{content-escape, lex-escape}
use Rattle.row_members.specs.Scans.{lexemes_from, is_plain, Skips, Passes, Holds, HoldsText}
use Rattle.row_members.proofs.PlainTexts.{escape_plain}

-- ---- white space

known : (x y : ℕ) (xs : List ℕ) → lex between (y ∷ xs) ≡ lex between xs → (x == y) ≡ true → lex between (x ∷ xs) ≡ lex between xs
known x y xs passed e = ap (λ (z : ℕ). lex between (z ∷ xs)) (eqb-true x y e) ∙ passed

space : (x : ℕ) (xs : List ℕ) → is_space x ≡ true → lex between (x ∷ xs) ≡ lex between xs
unfolding lex
space x xs h =
    elim (or_cases _ (x == 13) h) [
      | inl h ↦ elim (or_cases _ (x == 10) h) [
        | inl h ↦ elim (or_cases (x == 32) (x == 9) h) [ inl e ↦ known x 32 xs refl e | inr e ↦ known x 9 xs refl e ]
        | inr e ↦ known x 10 xs refl e
      ]
      | inr e ↦ known x 13 xs refl e
    ]

pub space_at : (line : List ℕ) (at : ℕ) → at < length line → is_space (get_or line at 0) ≡ true
    → lexemes_from line at ≡ lexemes_from line (at + 1)
space_at line at within h = ap (lex between) (drop_more line at 0 within) ∙ space _ _ h

pub pass_at : (line : List ℕ) (start at byte : ℕ) → Skips line start at → at < length line → get_or line at 0 ≡ byte
    → Passes line start byte (at + 1)
pass_at line start at byte skipped within is = record {
  ahead = omega (arith, skipped.ahead);
  within = omega arith;
  lexed = skipped.lexed ∙ ap (lex between) (drop_more line at 0 within ∙ ap (λ (x : ℕ). x ∷ drop (at + 1) line) is);
}

-- ---- texts

pub lex_plain : (s r : List ℕ) → list_all is_plain s ≡ true → lex between (34 ∷ (s ++ 34 ∷ r)) ≡ token (string s) ∷ lex between r
unfolding lex
lex_plain s r h =
    ap (λ (t : List ℕ). lex between (34 ∷ (t ++ 34 ∷ r))) (sym (escape_plain s h))
    ∙ ap₂ (λ (o : Option (List ℕ)) (l : List Lexeme). token (string_token o) ∷ l) (content-escape s r) (lex-escape s r)

-- a list's part up to its end
pub to_end : (line : List ℕ) (start : ℕ) → take (length line - start) (drop start line) ≡ drop start line
to_end line start = ap (λ (k : ℕ). take k (drop start line)) (sym (length-drop start line)) ∙ take-length (drop start line)

pub text_holds : (line : List ℕ) (start count : ℕ) → start < length line → get_or line start 0 ≡ 34
    → list_all is_plain (take count (take (length line - (start + 1)) (drop (start + 1) line))) ≡ true → start + 1 + count < length line
    → get_or line (start + 1 + count) 0 ≡ 34 → HoldsText line start (start + 1 + count + 1)
text_holds line start count within opens plain inside closes =
    let stop = start + 1 + count in
    let last : stop + 1 - 1 ≡ stop = omega arith in
    let long : count ≡ stop - (start + 1) = omega arith in
    let s = slice_range line (start + 1) stop in
    let same : take count (take (length line - (start + 1)) (drop (start + 1) line)) ≡ s =
    ap (take count) (to_end line (start + 1)) ∙ ap (λ (k : ℕ). take k (drop (start + 1) line)) long in
    let first : drop start line ≡ 34 ∷ drop (start + 1) line =
    drop_more line start 0 within ∙ ap (λ (x : ℕ). x ∷ drop (start + 1) line) opens in
    let final : drop stop line ≡ 34 ∷ drop (stop + 1) line =
    drop_more line stop 0 inside ∙ ap (λ (x : ℕ). x ∷ drop (stop + 1) line) closes in
    let whole : drop start line ≡ 34 ∷ (s ++ 34 ∷ drop (stop + 1) line) =
    first ∙ ap (λ (l : List ℕ). 34 ∷ l) (drop_split line (start + 1) stop (omega arith) ∙ ap (λ (l : List ℕ). s ++ l) final) in (
      omega arith,
      record {
        ahead = omega arith;
        within = omega arith;
        lexed = ap (lex between) whole
            ∙ lex_plain s (drop (stop + 1) line) (ap (list_all is_plain) (sym same) ∙ plain)
            ∙ ap (λ (k : ℕ). token (string (slice_range line (start + 1) k)) ∷ lexemes_from line (stop + 1)) (sym last);
      },
    )

-- what stands behind white space stands there
pub skip_holds : (line : List ℕ) (start at end : ℕ) (lexemes : List Lexeme) → Skips line start at → Holds line at lexemes end
    → Holds line start lexemes end
skip_holds line start at end lexemes skipped h = record {
  ahead = omega (arith, skipped.ahead, h.ahead);
  within = h.within;
  lexed = skipped.lexed ∙ h.lexed;
}

-- what holds of what was found holds in other words
pub weaker : {X : Type 0} {P Q : X → Type 0} → ((x : X) → P x → Q x) → (o : Option X) → IfSome o P → IfSome o Q
weaker f None h = h
weaker f (Some x) h = f x h
