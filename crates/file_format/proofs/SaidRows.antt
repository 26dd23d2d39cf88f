-- Rows that lines say, and texts that they lack.
use Rattle.std.proofs.Common.{◌≡◌, ◌≤◌, ℕ, List, [], true, length, IsUtf8, refl, sym, ap, subst, ◌∙◌, arith}
use Rattle.json.proofs.Printed.Utf8.{IsUtf8-are_ascii}
use Rattle.tag.specs.declared.actions.Action.{Action}
use Rattle.tag.specs.declared.numbers.OpId.{OpId}
use Rattle.tag.specs.Limits.{client_limit}
use Rattle.tag.specs.Names.{is_key, is_value}
use Rattle.recorder.specs.declared.row.Row.{Row}
use Rattle.recorder.specs.declared.row.Row.TheVariants.{Invoke}
use Rattle.file_format.specs.declared.line_row.RowKind.{RowKind}
use Rattle.file_format.specs.declared.line_texts.LinePart.{LinePart}
use Rattle.file_format.specs.LineRows.{HasKey, row_with}
use Rattle.file_format.specs.declared.marks.Marks.{Marks}
use Rattle.file_format.specs.Ranges.{HasLineIn, IsOp, HasValueIn, IsRowInRange}
use Rattle.file_format.specs.RowTexts.{after_client, asked_text, row_bytes}
use Rattle.file_format.specs.SaidRows.{IsSaidBy}
use Rattle.file_format.proofs.WrittenLines.{key_utf8, short_key}

-- the empty text serves as a key that isn't asked for, and as a value
pub record Serves (text : List ℕ) : Type 0 where
  pub short : length text ≤ 64
  pub value : is_value text ≡ true
  pub utf8 : IsUtf8 text

pub empty_serves : (text : List ℕ) → text ≡ [] → Serves text
empty_serves text is = rw is (record { short = omega arith; value = refl; utf8 = IsUtf8-are_ascii [] refl })

-- an invocation is said by a line with its text, since its fields are in their ranges
pub asked : (line : List ℕ) (marks : Marks) (op : OpId) (client name : ℕ) (key value : LinePart) (kind : RowKind) (action : Action)
    → row_with kind key.text.now value.text.now ≡ Invoke op client key.text.now action
    → line ≡ after_client op client (asked_text marks key.text.now action) → HasLineIn marks.line → HasKey kind key.text.now → is_key key.text.now ≡ true
    → IsOp op → name ≡ client → 1 ≤ name → name ≤ client_limit → HasValueIn action → is_value value.text.now ≡ true
    → IsUtf8 value.text.now → IsSaidBy line (record { hall = marks.hall; kind = kind; key = key; value = value })
asked line marks op client name key value kind action is written numbered own named call same least most asks lawful utf8 = record {
  number = marks.line;
  numbered = numbered;
  text = written ∙ ap (λ (row : Row). row_bytes marks row) (sym is);
  range = subst IsRowInRange (sym is) (record {
    call = call;
    least = omega (arith, same, least);
    most = omega (arith, same, most);
    named = named;
    asks = asks;
  });
  lawful = record { key = own; short = short_key key.text.now named; value = lawful };
  key = key_utf8 key.text.now named;
  value = utf8;
}
