use Rattle.std.proofs.Common.{ℕ, ◌++◌, List, length, sym, ap, ◌∙◌, append-nil, arith, rules}
use Rattle.std.proofs.lemmas.Iterator.{YieldsList-from_chars}
use Rattle.std.proofs.lemmas.Iterator.Consumers.{YieldsList-turn, YieldsList-end}
use Rattle.std.proofs.lemmas.List.{length_push}
use Rattle.std.specs.Str.{chars}
use Rattle.std.specs.String.{string_bytes}
use Rattle.labels.proofs.Fitting.{rest_step, rest_start, rest_stops, rest_end}
use Rattle.labels.proofs.cuts.beginning.Goals as goal

pub returns-then-left-width : goal.returns-then-left-width
returns-then-left-width c =
    let at = c.loop-c in
    let cs = chars c.args.words.now in
    let t = YieldsList-turn (YieldsList-from_chars c.args.words.now c.utf8.words cc) at.yielded _ at.yielded_by _ _ c.in-Some.c c.in-Some.is c.next.ensures.steps in
    let little = c.if-left-width.true in
    let none = rest_stops at.left (length at.yielded) c.in-Some.c cs t.0 t.1 (rw (sym c.cells-width.ensures) little) in
    sym (append-nil (string_bytes at.kept)) ∙ (ap (λ (s : List ℕ). string_bytes at.kept ++ s) (sym none) ∙ at.invariant)

pub loop-c-init : goal.loop-c-init
loop-c-init c = rw (rest_start c.args.room c.args.words.now) (search rules)

pub loop-c-preserved : goal.loop-c-preserved
loop-c-preserved c =
    let at = c.loop-c in
    let cs = chars c.args.words.now in
    let t = YieldsList-turn (YieldsList-from_chars c.args.words.now c.utf8.words cc) at.yielded _ at.yielded_by _ _ c.in-Some.c c.in-Some.is c.next.ensures.steps in
    rest_step at.left (length at.yielded) _ c.in-Some.c c.cells-width.result cs (string_bytes at.kept) _ _ t.0 t.1 c.cells-width.ensures
    c.if-left-width.false (length_push at.yielded c.in-Some.c) c.in_ok-push_char.ensures at.invariant

pub returns : goal.returns
returns c =
    let at = c.loop-c in
    let cs = chars c.args.words.now in
    let t = YieldsList-end (YieldsList-from_chars c.args.words.now c.utf8.words cc) at.yielded _ at.yielded_by _ _ c.in-None.is c.next.ensures.steps in
    let none = rest_end at.left (length at.yielded) cs (omega (arith, t.1)) in
    sym (append-nil (string_bytes at.kept)) ∙ (ap (λ (s : List ℕ). string_bytes at.kept ++ s) (sym none) ∙ at.invariant)
