-- The samples of shapes that the legend of diagrams has.
use Rattle.markup.specs.Markup.{Markup, both}
use Rattle.labels.specs.Samples.{sample}
use Rattle.diagrams.specs.declared.style.TheConstants.{ASKING, ASKING_KEY, DOWN_KEY, DOWN_TIME}
use Rattle.diagrams.specs.declared.style.TheConstants.{LOST, LOST_KEY, PUTTING, PUTTING_KEY, REPLY}
use Rattle.diagrams.specs.declared.style.TheConstants.{REPLY_KEY, REQUEST, REQUEST_KEY, STALE}
use Rattle.diagrams.specs.declared.style.TheConstants.{STALE_KEY, UNDER_WAY, UNDER_WAY_KEY}

-- a sample of each kind of arrow
abbrev pub arrow_samples : Markup
arrow_samples = both (sample REQUEST.now REQUEST_KEY.now) (both (sample REPLY.now REPLY_KEY.now)
    (both (sample STALE.now STALE_KEY.now) (both (sample LOST.now LOST_KEY.now)
    (sample UNDER_WAY.now UNDER_WAY_KEY.now))))

-- a sample of each part of a bar, and of a down time
abbrev pub bar_samples : Markup
bar_samples = both (sample ASKING.now ASKING_KEY.now) (both (sample PUTTING.now PUTTING_KEY.now)
    (sample DOWN_TIME.now DOWN_KEY.now))
