-- A line is read member by member.
use Rattle.std.proofs.Common.{◌≡◌, ◌≤◌, ◌∷◌, [], ℕ, List, length, drop, Option, Some, None, IsUtf8, inl, inr, refl, sym, ap, ◌∙◌, subst}
use Rattle.std.specs.Prelude.{replicate, unwrap_or}
use Rattle.std.proofs.lemmas.List.{drop_all}
use Rattle.json.specs.Lex.{Lexeme, token, comma, colon, lex, between}
use Rattle.json.specs.Token.{begin_object, end_object, string}
use Rattle.serde_json.specs.Data.{Data, Members, no_members, object, null, put}
use Rattle.serde_json.specs.Find.{get_member, get}
use Rattle.serde_json.specs.Read.{read}
use Rattle.serde_json.proofs.Views.{get_member-put, get_member-put_other}
use Rattle.row_members.specs.declared.member.Member.{Member}
use Rattle.row_members.specs.declared.name.Name.{Name}
use Rattle.row_members.specs.declared.name.Name.TheVariants.{Call, Client, Do, Hall, Key, Number, Row, Value, Writer}
use Rattle.row_members.specs.Names.{text_of}
use Rattle.row_members.specs.Scalars.{token_of, data_of}
use Rattle.row_members.specs.Scans.{lexemes_from, entry_of, Updates, AddsMember, Passes, Skips}
use Rattle.row_members.specs.Values.{value_of, HasMembers}
use Rattle.row_members.proofs.Objects.{Pair, tail, puts, read_object}

-- up to that place the members have been read, and the rest decides what the line is read as
pub record IsReadTo (line : List ℕ) (at : ℕ) (members : List (Option Member)) : Type 0 where
  pub within : at ≤ length line
  pub found : Members
  pub each : (name : Name) → entry_of name members ≡ get_member (text_of name) found
  pub rest : (ps : List Pair) → lexemes_from line at ≡ tail ps → read line ≡ Some (object (puts ps found))

entry_after : (key : List ℕ) (value : Data) (found : Members) (before after : List (Option Member)) (name : Name)
    → entry_of name before ≡ get_member (text_of name) found → Updates key value before after name
    → entry_of name after ≡ get_member (text_of name) (put key value found)
entry_after key value found before after name was u =
    elim u [
      | inl h ↦ h.1 ∙ sym (ap (λ (k : List ℕ). get_member k (put key value found)) (sym h.0) ∙ get_member-put key value found)
      | inr h ↦ h.1 ∙ was ∙ sym (get_member-put_other (text_of name) key value found (λ e. h.0 (sym e)))
    ]

brace_first : (r : List ℕ) → lex between (123 ∷ r) ≡ token begin_object ∷ lex between r
unfolding lex
brace_first r = refl

comma_first : (r : List ℕ) → lex between (44 ∷ r) ≡ comma ∷ lex between r
unfolding lex
comma_first r = refl

end_first : (r : List ℕ) → lex between (125 ∷ r) ≡ token end_object ∷ lex between r
unfolding lex
end_first r = refl

nothing_left : lex between [] ≡ []
unfolding lex
nothing_left = refl

no_entry : (name : Name) → entry_of name (replicate 9 None) ≡ None
no_entry Call = refl
no_entry Client = refl
no_entry Do = refl
no_entry Hall = refl
no_entry Key = refl
no_entry Number = refl
no_entry Row = refl
no_entry Value = refl
no_entry Writer = refl

-- what is said of a text is so of the line that it is
of_line : (line text : List ℕ) (start end : ℕ) (before after : List (Option Member)) → text ≡ line
    → AddsMember text start before after end → AddsMember line start before after end
of_line line text start end before after same = subst (λ (t : List ℕ). AddsMember t start before after end) same

pub first_read : (line text : List ℕ) (next end : ℕ) (before after : List (Option Member)) → before ≡ replicate 9 None → text ≡ line
    → Passes line 0 123 next → AddsMember text next before after end → IsReadTo line end after
first_read line text next end before after empty is passed said = let a = of_line line text next end before after is said in record {
  within = a.holds.within;
  found = put a.key (data_of a.scalar) no_members;
  each = λ name. entry_after a.key (data_of a.scalar) no_members before after name (ap (entry_of name) empty ∙ no_entry name) (a.each name);
  rest = λ ps lexed. read_object line a.key a.scalar ps (passed.lexed ∙ brace_first (drop next line)
      ∙ ap (λ (l : List Lexeme). token begin_object ∷ l) (a.holds.lexed
      ∙ ap (λ (l : List Lexeme). token (string a.key) ∷ colon ∷ token (token_of a.scalar) ∷ l) lexed));
}

pub more_read : (line text : List ℕ) (at next end : ℕ) (before after : List (Option Member)) → IsReadTo line at before → text ≡ line
    → Passes line at 44 next → AddsMember text next before after end → IsReadTo line end after
more_read line text at next end before after r is passed said = let a = of_line line text next end before after is said in record {
  within = a.holds.within;
  found = put a.key (data_of a.scalar) r.found;
  each = λ name. entry_after a.key (data_of a.scalar) r.found before after name (r.each name) (a.each name);
  rest = λ ps lexed. r.rest ((a.key, a.scalar) ∷ ps) (passed.lexed ∙ comma_first (drop next line)
      ∙ ap (λ (l : List Lexeme). comma ∷ l) (a.holds.lexed
      ∙ ap (λ (l : List Lexeme). token (string a.key) ∷ colon ∷ token (token_of a.scalar) ∷ l) lexed));
}

pub all_read : (line : List ℕ) (at next end : ℕ) (members : List (Option Member)) → IsUtf8 line → IsReadTo line at members
    → Passes line at 125 next → Skips line next end → length line ≤ end → HasMembers line members
all_read line at next end members utf8 r passed skipped whole =
    let none : lexemes_from line end ≡ [] = ap (lex between) (drop_all end line whole) ∙ nothing_left in
    let said : read line ≡ Some (object r.found) = r.rest [] (passed.lexed ∙ end_first (drop next line)
    ∙ ap (λ (l : List Lexeme). token end_object ∷ l) (skipped.lexed ∙ none)) in
    let value : value_of line ≡ object r.found = ap (λ (o : Option Data). unwrap_or o null) said in
    record {
      json = (utf8, said ∙ ap Some (sym value));
      each = λ name. r.each name ∙ ap (get (text_of name)) (sym value);
    }
