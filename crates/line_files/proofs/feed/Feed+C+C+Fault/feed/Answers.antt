use Rattle.std.proofs.Common.{ℕ, length-append, sym, subst, arith}
use Rattle.std.specs.Prelude.{Vec}
use Rattle.std.specs.declared.alloc.Global.{Global}
use Rattle.line_files.specs.LinesRead.{AreRead}
use Rattle.line_files.proofs.FeedLemmas.{read_by, stands_for}
use Rattle.line_files.proofs.feed.Feed+C+C+Fault.feed.Goals as goal

pub returns-in-Ok-clause-fed : goal.returns-in-Ok-clause-fed
returns-in-Ok-clause-fed g c = λ bytes s.
    let old = c.args.self.now in
    let P : Vec ℕ Global → Type 0 = λ rest. AreRead g.C.Contents.Reads bytes old.progress rest.items in
    let read = subst P (sym c.replace-rest.ensures.value) (read_by g.C.Contents.Reads bytes old s) in
    stands_for g.C.Contents.Reads _ _ (c.in-Ok.ensures.reads bytes read) (omega (arith, s.fed, length-append bytes c.args.block.now)) s.sound

pub returns-in-Err-clause-fed : goal.returns-in-Err-clause-fed
returns-in-Err-clause-fed g c = λ bytes s.
    let old = c.args.self.now in
    let P : Vec ℕ Global → Type 0 = λ rest. AreRead g.C.Contents.Reads bytes old.progress rest.items in
    c.in-Err.ensures.reads bytes (subst P (sym c.replace-rest.ensures.value) (read_by g.C.Contents.Reads bytes old s))

pub returns-in-Err-clause-before : goal.returns-in-Err-clause-before
returns-in-Err-clause-before g c = λ bytes s.
    let old = c.args.self.now in
    let P : Vec ℕ Global → Type 0 = λ rest. AreRead g.C.Contents.Reads bytes old.progress rest.items in
    c.in-Err.ensures.before bytes (subst P (sym c.replace-rest.ensures.value) (read_by g.C.Contents.Reads bytes old s))
