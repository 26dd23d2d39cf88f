-- The entries of the names after a member was put among them.
use Rattle.std.proofs.Common.{◌≡◌, ◌+◌, ◌∷◌, [], ℕ, List, cond, ◌==◌}
use Rattle.std.proofs.Common.{get_or, Option, Some, None, inl, inr, refl, sym, ap}
use Rattle.std.proofs.Common.{◌∙◌, arith}
use Rattle.std.specs.Prelude.{option_map, set}
use Rattle.std.proofs.lemmas.Bool.{cases_eq}
use Rattle.std.proofs.lemmas.List.{get_or-set_same, get_or-set_other}
use Rattle.json.specs.Lex.{Lexeme, token, colon}
use Rattle.json.specs.Token.{string}
use Rattle.serde_json.specs.Data.{Data}
use Rattle.row_members.specs.declared.member.Member.{Member}
use Rattle.row_members.specs.declared.name.Name.{Name}
use Rattle.row_members.specs.declared.name.Name.TheVariants.{Call, Client, Do, Hall, Key, Number, Row, Value, Writer}
use Rattle.row_members.specs.Names.{text_of, place_of}
use Rattle.row_members.specs.Values.{member_data}
use Rattle.row_members.specs.Scalars.{data_of}
use Rattle.row_members.specs.Scans.{HoldsValue, IsNamed, HoldsKey}
use Rattle.row_members.specs.Scans.{entry_of, Puts, Updates, AddsMember}

-- ---- the names are distinct

place_by_sum : ℕ → ℕ
place_by_sum n =
    cond (n == 412) 0 (cond (n == 639) 1 (cond (n == 211) 2 (cond (n == 417) 3 (cond (n == 329) 4
    (cond (n == 649) 5 (cond (n == 344) 6 (cond (n == 541) 7 8)))))))

total : List ℕ → ℕ
total [] = 0
total (x ∷ xs) = x + total xs

place_in : (name : Name) → place_by_sum (total (text_of name)) ≡ place_of name
unfolding place_by_sum total
place_in Call = refl
place_in Client = refl
place_in Do = refl
place_in Hall = refl
place_in Key = refl
place_in Number = refl
place_in Row = refl
place_in Value = refl
place_in Writer = refl

one_place : (m n : Name) → text_of m ≡ text_of n → place_of m ≡ place_of n
one_place m n e = sym (place_in m) ∙ ap (λ (s : List ℕ). place_by_sum (total s)) e ∙ place_in n

-- the names in the order of their places
abbrev pub names : List Name
names = Call ∷ Client ∷ Do ∷ Hall ∷ Key ∷ Number ∷ Row ∷ Value ∷ Writer ∷ []

pub named_at : (name : Name) → get_or names (place_of name) Call ≡ name
named_at Call = refl
named_at Client = refl
named_at Do = refl
named_at Hall = refl
named_at Key = refl
named_at Number = refl
named_at Row = refl
named_at Value = refl
named_at Writer = refl

one_name : (m n : Name) → place_of m ≡ place_of n → m ≡ n
one_name m n e = sym (named_at m) ∙ ap (λ (k : ℕ). get_or names k Call) e ∙ named_at n

-- ---- the entries after a member

updates : (key : List ℕ) (value : Data) (before after : List (Option Member)) (member : Member) (name : Option Name)
    → member_data member ≡ value → IsNamed key name → Puts before name member after → (n : Name) → Updates key value before after n
updates key value before after member None is named puts n =
    inr (named n, ap (entry_of n) puts)
updates key value before after member (Some name) is named puts n =
    elim (cases_eq (place_of n) (place_of name)) [
      | inl e ↦ inl (
        named ∙ ap text_of (sym (one_name n name e)),
        ap (entry_of n) puts.1
            ∙ ap (λ (k : ℕ). option_map member_data (get_or (set before (place_of name) (Some member)) k None)) e
            ∙ ap (option_map member_data) (get_or-set_same before (place_of name) (Some member) None puts.0) ∙ ap Some is,
      )
      | inr apart ↦ inr (
        λ same. apart (one_place n name (sym same ∙ named)),
        ap (entry_of n) puts.1
            ∙ ap (option_map member_data) (get_or-set_other before (place_of name) (place_of n) (Some member) None apart),
      )
    ]

pub added : (line : List ℕ) (start mid end : ℕ) (before after : List (Option Member)) (name : Option Name) (member : Member)
    → HoldsKey line start name mid → HoldsValue line mid member end → Puts before name member after
    → AddsMember line start before after end
added line start mid end before after name member k v puts = record {
  key = k.0;
  scalar = v.0;
  holds = record {
    ahead = omega (arith, k.2.ahead, v.2.ahead);
    within = v.2.within;
    lexed = k.2.lexed ∙ ap (λ (l : List Lexeme). token (string k.0) ∷ colon ∷ l) v.2.lexed;
  };
  each = updates k.0 (data_of v.0) before after member name v.1 k.1 puts;
}
