use Rattle.std.proofs.Common.{List, ℕ, ◌≡◌, Option, inr, sym, ap, subst, ◌∙◌}
use Rattle.std.proofs.lemmas.Option.{same_Some}
use Rattle.kept_writers.specs.Candidates.{begin_at}
use Rattle.kept_writers.specs.Ends.{number_at}
use Rattle.kept_writers.specs.Written.{HasEnd, Written}
use Rattle.monitored_key.specs.Indexed.{write_in, owner_in, values_in}
use Rattle.monitored_key.specs.Indexes.{written_or_none}
use Rattle.key_monitor.specs.KeptWrites.{KeptWrite}
use Rattle.monitored_key.specs.Maps.{entry_at, text_at}
use Rattle.monitored_key.proofs.Finding.{begun_at, free_end}
use Rattle.monitored_key.proofs.Indexing.{Become, by_sets, indexed_ended}
use Rattle.monitored_key.proofs.Maps.{sets_entry, there}
use Rattle.monitored_key.proofs.indexed.Indexed.end.Goals as goal

pub end_writer-requires : goal.end_writer-requires
end_writer-requires c =
    let s = c.args.self.now in
    let number = c.args.number in
    let o = c.requires.there in
    let same : o.0 ≡ c.in-Some.write.now = same_Some o.0 c.in-Some.write.now (sym o.1 ∙ sym c.in-Some.ensures.value) in
    let text : c.text.result.now ≡ o.0.value = c.text.ensures ∙ ap (λ (k : KeptWrite). k.value) (sym same) in
    let b = begun_at (values_in s) o.0.value number o.0.begin (c.requires.fit.begun number o.0 o.1 o.2) in
    record {
      there = (
        b.0,
        ap (values_in s) text ∙ b.1,
        there (begin_at b.0.begins number) o.0.begin b.2,
        free_end (write_in s) (values_in s) (owner_in s) c.requires.fit c.args.place c.requires.free o.0.value b.0 b.1,
      );
    }

pub returns-clause-fit : goal.returns-clause-fit
returns-clause-fit c =
    let s = c.args.self.now in
    let number = c.args.number in
    let place = c.args.place in
    let o = c.requires.there in
    let same : o.0 ≡ c.in-Some.write.now = same_Some o.0 c.in-Some.write.now (sym o.1 ∙ sym c.in-Some.ensures.value) in
    let text : c.text.result.now ≡ o.0.value = c.text.ensures ∙ ap (λ (k : KeptWrite). k.value) (sym same) in
    let at = begun_at (values_in s) o.0.value number o.0.begin (c.requires.fit.begun number o.0 o.1 o.2) in
    let values = text_at c.end_writer.new.values in
    let f = c.in_ok-end_writer.ensures at.0 (ap (values_in s) text ∙ at.1) in
    let b : Become (values_in s) c.text.result.now values f.0 = by_sets (values_in s) c.text.result.now values f.0
    (inr (place, there (number_at f.0.ends place) number f.1.here)) f.2 in
    indexed_ended (write_in s) (values_in s) (owner_in s) c.requires.fit number place o.0 o.1 o.2 c.requires.free f.0
    (subst (λ (x : Option Written). HasEnd (written_or_none x) number place f.0) (sym at.1) f.1) values
    (subst (λ (v : List ℕ). Become (values_in s) v values f.0) text b)
    (entry_at c.set_end.new.writes.entries) (c.set_end.ensures o.0 o.1)
    (entry_at c.insert.new.self.entries) (sets_entry s.by_end c.insert.new.self place number c.in_ok-insert.ensures.updates)
