-- Bytes cut into lines and a rest.
use Rattle.std.proofs.Common.{ℕ, zero, suc, ◌≡◌, ◌≢◌, ◌<◌, ◌≤◌, ◌+◌, ◌-◌, take, drop, slice_index}
use Rattle.std.proofs.Common.{eqb, eqb-true, List, [], ◌∷◌, ◌++◌, length, Bool, true, false, refl}
use Rattle.std.proofs.Common.{sym, ap, ◌∙◌, append_assoc, append-nil, length-append, subst}
use Rattle.std.proofs.Common.{lt_irrefl, le_refl, le_trans, add-le-add, suc-le-suc, suc-ne-zero}
use Rattle.std.proofs.Math.Nat.{le_step}
use Rattle.std.specs.List.{flat_map}
use Rattle.std.proofs.lemmas.Grind.{flat_map-append}
use Rattle.std.proofs.lemmas.List.{drop_more, take_rest, take-append-drop}
use Rattle.std.proofs.lemmas.List.Elements.{All-append, All-nil, All-cons, All-head, All-tail}
use Rattle.std.proofs.lemmas.Bool.{eqb-false}
use Rattle.counted_devices.specs.Cuts.{with_end, HasNoEnd, Splits, AreLinesIn, last_lines}

pub Splits-join : (bytes block : List ℕ) (lines more : List (List ℕ)) (rest last : List ℕ)
    → Splits bytes lines rest → Splits (rest ++ block) more last
    → Splits (bytes ++ block) (lines ++ more) last
Splits-join bytes block lines more rest last a b = record {
  whole = ap (λ (xs : List ℕ). xs ++ block) a.whole
      ∙ append_assoc (flat_map with_end lines) rest block
      ∙ ap (λ (xs : List ℕ). flat_map with_end lines ++ xs) b.whole
      ∙ sym (append_assoc (flat_map with_end lines) (flat_map with_end more) last)
      ∙ ap (λ (xs : List ℕ). xs ++ last) (sym (flat_map-append with_end lines more));
  each = All-append HasNoEnd lines more a.each b.each;
  partial = b.partial;
}

line_long : (line bytes : List ℕ) → suc (length bytes) ≤ length (with_end line ++ bytes)
line_long [] bytes = le_refl (suc (length bytes))
line_long (b ∷ line) bytes = le_step (line_long line bytes)

ends_long : (lines : List (List ℕ)) → length lines ≤ length (flat_map with_end lines)
ends_long [] = le_refl zero
ends_long (line ∷ lines) =
    le_trans (suc-le-suc (ends_long lines)) (line_long line (flat_map with_end lines))

-- each line and its end is a byte at least
pub Splits-room : (bytes : List ℕ) (lines : List (List ℕ)) (rest : List ℕ) → Splits bytes lines rest
    → length lines + length rest ≤ length bytes
Splits-room bytes lines rest s =
    let whole : length bytes ≡ length (flat_map with_end lines) + length rest =
    ap length s.whole ∙ length-append (flat_map with_end lines) rest in
    subst (λ (n : ℕ). length lines + length rest ≤ n) (sym whole)
    (add-le-add (ends_long lines) (le_refl (length rest)))

-- bytes without an end are no line
pub Splits-none : (bytes : List ℕ) → HasNoEnd bytes → Splits bytes [] bytes
Splits-none bytes h = record { whole = refl; each = All-nil HasNoEnd; partial = h }

-- a line begun by the rest and ended behind the front, before the lines of the tail
pub Splits-line : (rest front tail : List ℕ) (lines : List (List ℕ)) (last : List ℕ) → HasNoEnd rest
    → HasNoEnd front → Splits tail lines last
    → Splits (rest ++ (front ++ 10 ∷ tail)) ((rest ++ front) ∷ lines) last
Splits-line rest front tail lines last r f s = record {
  whole = sym (append_assoc rest front (10 ∷ tail))
      ∙ ap (λ (xs : List ℕ). (rest ++ front) ++ 10 ∷ xs) s.whole
      ∙ sym (append_assoc (rest ++ front) (10 ∷ []) (flat_map with_end lines ++ last))
      ∙ sym (append_assoc (with_end (rest ++ front)) (flat_map with_end lines) last);
  each = All-cons HasNoEnd (rest ++ front) lines (All-append (λ (b : ℕ). b ≢ 10) rest front r f)
      s.each;
  partial = s.partial;
}

-- what stands after that place
abbrev pub behind : List ℕ → ℕ → List ℕ
behind block i = take (length block - (i + 1)) (drop (i + 1) block)

-- the block, cut at its first end
pub cut_at : (block : List ℕ) (i : ℕ) → i < length block → slice_index block i ≡ 10 → block
    ≡ take i block ++ 10 ∷ behind block i
cut_at block i inside ten = sym (take-append-drop i block)
    ∙ ap (λ (xs : List ℕ). take i block ++ xs) (drop_more block i 0 inside
    ∙ ap (λ (b : ℕ). b ∷ drop (i + 1) block) ten
    ∙ ap (λ (xs : List ℕ). 10 ∷ xs) (sym (take_rest block (i + 1))))

-- the bytes' lines and their rest
pub record Cut (bytes : List ℕ) : Type 0 where
  pub lines : List (List ℕ)
  pub rest : List ℕ
  pub splits : Splits bytes lines rest

cut_longer : (b : ℕ) (bytes : List ℕ) (lines : List (List ℕ)) (rest : List ℕ) → b ≢ 10
    → Splits bytes lines rest → Cut (b ∷ bytes)
cut_longer b bytes [] rest other s = record {
  lines = [];
  rest = b ∷ rest;
  splits = record {
    whole = ap (λ (xs : List ℕ). b ∷ xs) s.whole;
    each = All-nil HasNoEnd;
    partial = All-cons (λ (x : ℕ). x ≢ 10) b rest other s.partial;
  };
}
cut_longer b bytes (line ∷ lines) rest other s = record {
  lines = (b ∷ line) ∷ lines;
  rest = rest;
  splits = record {
    whole = ap (λ (xs : List ℕ). b ∷ xs) s.whole;
    each = All-cons HasNoEnd (b ∷ line) lines
        (All-cons (λ (x : ℕ). x ≢ 10) b line other (All-head HasNoEnd line lines s.each))
        (All-tail HasNoEnd line lines s.each);
    partial = s.partial;
  };
}

cut_more : (b : ℕ) (bytes : List ℕ) (ends : Bool) → eqb b 10 ≡ ends → Cut bytes → Cut (b ∷ bytes)
cut_more b bytes true e c = record {
  lines = [] ∷ c.lines;
  rest = c.rest;
  splits = let P : ℕ → Type 0 = λ x. Splits (x ∷ bytes) ([] ∷ c.lines) c.rest in
      subst P (sym (eqb-true b 10 e)) (Splits-line [] [] bytes c.lines c.rest
      (All-nil (λ (x : ℕ). x ≢ 10)) (All-nil (λ (x : ℕ). x ≢ 10)) c.splits);
}
cut_more b bytes false e c = cut_longer b bytes c.lines c.rest (eqb-false b 10 e) c.splits

-- all bytes are lines and a rest
pub cut_of : (bytes : List ℕ) → Cut bytes
cut_of [] = record { lines = []; rest = []; splits = Splits-none [] (All-nil (λ (x : ℕ). x ≢ 10)) }
cut_of (b ∷ bytes) = cut_more b bytes (eqb b 10) refl (cut_of bytes)

pub last_some : (lines : List (List ℕ)) (rest : List ℕ) → 0 < length rest → last_lines lines rest
    ≡ lines ++ rest ∷ []
last_some lines [] some = absurd (lt_irrefl zero some)
last_some lines (b ∷ rest) some = refl

pub last_none : (lines : List (List ℕ)) (rest : List ℕ) → length rest ≡ 0 → last_lines lines rest
    ≡ lines
last_none lines [] none = refl
last_none lines (b ∷ rest) none = absurd (suc-ne-zero (length rest) none)

-- a rest after whole lines
pub Splits-rest : (bytes rest : List ℕ) (lines : List (List ℕ)) → Splits bytes lines []
    → HasNoEnd rest → Splits (bytes ++ rest) lines rest
Splits-rest bytes rest lines s none =
    let P : List (List ℕ) → Type 0 = λ ls. Splits (bytes ++ rest) ls rest in
    subst P (append-nil lines) (Splits-join bytes rest lines [] [] rest s (Splits-none rest none))

-- the rest is a line, when its end comes
ended_rest : (rest : List ℕ) → HasNoEnd rest → Splits (with_end rest) (rest ∷ []) []
ended_rest rest none = record {
  whole = sym (append-nil (with_end rest ++ []) ∙ append-nil (with_end rest));
  each = All-cons HasNoEnd rest [] none (All-nil HasNoEnd);
  partial = All-nil (λ (b : ℕ). b ≢ 10);
}

-- a chunk whose end comes after it
pub ended_chunk : (chunk : List ℕ) (lines : List (List ℕ)) (rest : List ℕ) → Splits chunk lines rest
    → AreLinesIn (chunk ∷ []) (lines ++ rest ∷ [])
ended_chunk chunk lines rest s =
    let P : List ℕ → Type 0 = λ xs. Splits xs (lines ++ rest ∷ []) [] in
    subst P (sym (append-nil (with_end chunk)))
    (Splits-join chunk (10 ∷ []) lines (rest ∷ []) rest [] s (ended_rest rest s.partial))

-- a line is a chunk of one line
pub one_line : (line : List ℕ) → HasNoEnd line → AreLinesIn (line ∷ []) (line ∷ [])
one_line line none = ended_chunk line [] line (Splits-none line none)

pub no_chunks : AreLinesIn [] []
no_chunks = Splits-none [] (All-nil (λ (b : ℕ). b ≢ 10))

pub more_lines : (chunk : List ℕ) (chunks lines more : List (List ℕ))
    → AreLinesIn (chunk ∷ []) lines → AreLinesIn chunks more
    → AreLinesIn (chunk ∷ chunks) (lines ++ more)
more_lines chunk chunks lines more a b =
    let P : List ℕ → Type 0 = λ xs. Splits xs lines [] in
    Splits-join (with_end chunk) (flat_map with_end chunks) lines more [] []
    (subst P (append-nil (with_end chunk)) a) b

-- the lines of chunks
pub record ChunkLines (chunks : List (List ℕ)) : Type 0 where
  pub lines : List (List ℕ)
  pub cut : AreLinesIn chunks lines

pub lines_of : (chunks : List (List ℕ)) → ChunkLines chunks
lines_of [] = record { lines = []; cut = no_chunks }
lines_of (chunk ∷ chunks) =
    let one = cut_of chunk in
    let more = lines_of chunks in
    let lines = one.lines ++ one.rest ∷ [] in
    record {
      lines = lines ++ more.lines;
      cut = more_lines chunk chunks lines more.lines
          (ended_chunk chunk one.lines one.rest one.splits) more.cut;
    }
