-- What the value of a member is to the lexer of JSON.
use Rattle.std.proofs.Common.{◌≡◌, ◌≤◌, ◌+◌, ◌-◌, ◌++◌, ◌∷◌, [], ℕ, suc, List, Bool, true, cond}
use Rattle.std.proofs.Common.{decimal, drop, length, refl, sym, ap, ap₂}
use Rattle.std.proofs.Common.{◌∙◌, arith}
use Rattle.std.specs.Prelude.{codes}
use Rattle.std.specs.List.{slice_range}
use Rattle.std.proofs.lemmas.List.{drop-drop, length-drop}
use Rattle.json.specs.Lex.{Lexeme, token, lex, between}
use Rattle.json.specs.Token.{null, bad}
use Rattle.json.specs.Word.{ends_word, word}
use Rattle.json.proofs.Printed.Decimals.{IsNumber-decimal}
use Rattle.json.proofs.Printed.Numbers.{lex-number, in_word-ended}
use Rattle.serde_json.specs.Data as values
use Rattle.serde_json.specs.Data.{Data}
use Rattle.row_members.specs.declared.member.Member.{Member}
use Rattle.row_members.specs.declared.member.Member.TheVariants as member
use Rattle.row_members.specs.Scalars.{Scalar, nothing, text, digits, token_of, data_of}
use Rattle.row_members.specs.Scans.{Skips, Holds, HoldsText, BeginsWith}
use Rattle.row_members.specs.Scans.{HoldsValue}
use Rattle.row_members.proofs.Pieces.{skip_holds}

lex_null : (r : List ℕ) → ends_word r ≡ true → lex between (codes "null" ++ r) ≡ token null ∷ lex between r
unfolding lex word
lex_null r ended = ap₂ (λ (b : Bool) (l : List Lexeme). token (cond b null bad) ∷ l) ended (in_word-ended r ended)

pub null_holds : (line bytes : List ℕ) (start : ℕ) → bytes ≡ drop start line → start ≤ length line → bytes ≡ codes "null" ++ drop 4 bytes
    → ends_word (drop (start + 4) line) ≡ true → HoldsValue line start member.Null (start + 4)
null_holds line bytes start cut within begins ended =
    let behind : drop 4 bytes ≡ drop (start + 4) line = ap (drop 4) cut ∙ drop-drop 4 start line in
    let size : length bytes ≡ suc (suc (suc (suc (length (drop 4 bytes))))) = ap length begins in
    let long : length bytes ≡ length line - start = ap length cut ∙ length-drop start line in (
      nothing,
      refl,
      record {
        ahead = omega arith;
        within = omega (arith, size, long);
        lexed = ap (lex between) (sym cut ∙ begins ∙ ap (λ (l : List ℕ). codes "null" ++ l) behind)
            ∙ lex_null (drop (start + 4) line) ended;
      },
    )

pub number_holds : (line bytes : List ℕ) (start n count : ℕ) → bytes ≡ drop start line → start ≤ length line → BeginsWith bytes n count
    → ends_word (drop (start + count) line) ≡ true → HoldsValue line start (member.Number n) (start + count)
number_holds line bytes start n count cut within begins ended =
    let behind : drop count bytes ≡ drop (start + count) line = ap (drop count) cut ∙ drop-drop count start line in
    let long : length bytes ≡ length line - start = ap length cut ∙ length-drop start line in (
      digits n begins.fits,
      refl,
      record {
        ahead = omega (arith, begins.some);
        within = omega (arith, begins.within, long);
        lexed = ap (lex between) (sym cut ∙ begins.spelled ∙ ap (λ (l : List ℕ). decimal n ++ l) behind)
            ∙ lex-number (decimal n) (drop (start + count) line) (IsNumber-decimal n begins.fits) ended;
      },
    )

pub text_value : (line s : List ℕ) (start end : ℕ) → HoldsText line start end → s ≡ slice_range line (start + 1) (end - 1)
    → (x : Scalar) × (values.string s ≡ data_of x) × Holds line start (token (token_of x) ∷ []) end
text_value line s start end h same = (text (slice_range line (start + 1) (end - 1)), ap values.string same, h.1)

pub skip_value : (line : List ℕ) (start at end : ℕ) (member : Member) → Skips line start at → HoldsValue line at member end
    → HoldsValue line start member end
skip_value line start at end member skipped h = (h.0, h.1, skip_holds line start at end (token (token_of h.0) ∷ []) skipped h.2)
