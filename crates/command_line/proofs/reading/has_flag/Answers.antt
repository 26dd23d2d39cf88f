-- The text of a flag is what `get_one` reads.
use Rattle.std.proofs.Common.{◌≡◌, ◌↔◌, IsTrue, Bool, true, false, Option, Some, None, codes, refl, sym, ap, subst, ◌∙◌}
use Rattle.std.specs.Prelude.{unwrap_or}
use Rattle.std.specs.Str.Parse.{ParsesBool}
use Rattle.clap.specs.Words.{ReadsOne, Text, found_of, one_of, rows_of}
use Rattle.clap.proofs.WalkLemmas.{one_text-rows}
use Rattle.tag.proofs.Options.{none_some}
use Rattle.command_line.proofs.reading.has_flag.Goals as goal

-- the flag is given where its text reads as true
read_so : (E : Type 0) (text : Option Text) (value : Option Bool) → (text ≡ None → value ≡ None)
    → ((t : Text) → text ≡ Some t → ReadsOne {E = E} ParsesBool t value) → IsTrue (unwrap_or value false) ↔ (text ≡ Some (codes "true"))
read_so E None None none some = (λ given. absurd (cc), λ is. absurd (none_some is))
read_so E None (Some b) none some = let no = none refl in absurd (cc)
read_so E (Some t) None none some = (λ given. absurd (cc), λ is. let e = some t refl in let same : t ≡ codes "true" = cc in absurd (e.1.0 same))
read_so E (Some t) (Some true) none some = (λ given. ap Some (some t refl), λ is. refl)
read_so E (Some t) (Some false) none some =
    (λ given. absurd (cc), λ is. let said : t ≡ codes "false" = some t refl in let same : t ≡ codes "true" = cc in absurd (cc))

pub returns : goal.returns
returns c =
    let found = found_of c.args.matches.now in
    let name = c.args.name.now in
    let here = one_text-rows found name in
    subst (λ (b : Bool). IsTrue b ↔ (one_of name (rows_of found) ≡ Some (codes "true"))) (sym c.unwrap_or.ensures) (read_so _ (one_of name (rows_of found)) c.get_one.result (λ none. c.get_one.ensures.none (here ∙ none)) (λ t is. c.get_one.ensures.value t (here ∙ is)))
