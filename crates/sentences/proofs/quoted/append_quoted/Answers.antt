use Rattle.std.proofs.Common.{◌≡◌, codes, sym, ap, ◌∙◌}
use Rattle.std.proofs.lemmas.List.{map-id}
use Rattle.std.proofs.lemmas.Iterator.{YieldsList-from_chars}
use Rattle.std.proofs.lemmas.Iterator.Consumers.{YieldsList-end}
use Rattle.std.proofs.lemmas.Result.{on_ok_weaker}
use Rattle.std.specs.List.{flat_map}
use Rattle.std.specs.Str.{chars}
use Rattle.sentences.specs.Words.{char_text}
use Rattle.sentences.proofs.Appending.{more, more_same}
use Rattle.sentences.proofs.quoted.append_quoted.Goals as goal

pub returns : goal.returns
returns c =
    let at = c.loop-letter in
    let old = c.args.text.now.items in
    let letters = YieldsList-from_chars c.args.value.now c.utf8.value cc in
    let ended = YieldsList-end letters at.yielded _ at.yielded_by _ _ c.in-None.is c.next.ensures.steps in
    let all : at.yielded ≡ chars c.args.value.now = sym (map-id at.yielded) ∙ ended.0 in
    on_ok_weaker c.append-2.result (more old _ _ _ (codes "\"")
    (more_same old _ _ (codes "\"") _ _ (ap (flat_map char_text) all) c.in_ok-append.ensures at.invariant)) c.append-2.ensures
