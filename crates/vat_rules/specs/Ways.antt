-- Where views lead that may be missing, and which are one.
use Rattle.std.specs.Prelude.{◌≢◌, ◌⊎◌, Bool, true, false, Option, IsTrue, IsSomeAnd}
use Rattle.vat_rules.specs.Types.{Edition, First, Later, View}
use Rattle.decoded_records.specs.Past.{Past}
use Rattle.vat_view.specs.Walks.{Leads, LeadsByTurns, AreOne, Became, IsEnd}

-- there are both views, and the one leads to the other
abbrev pub LeadsTo : Past → Option View → Option View → Type 0
LeadsTo past from to = IsSomeAnd from (λ a. IsSomeAnd to (λ b. Leads past a b))

-- there are both views, and the one leads to the other by 1 or more turns
abbrev pub LeadsOnTo : Past → Option View → Option View → Type 0
LeadsOnTo past from to = IsSomeAnd from (λ a. IsSomeAnd to (λ b. LeadsByTurns past a b))

-- there are both views, and both are one
abbrev pub AreOneThere : Past → Option View → Option View → Type 0
AreOneThere past from to = IsSomeAnd from (λ a. IsSomeAnd to (λ b. AreOne past a b))

-- there are both views, and the one became the other
abbrev pub BecameThere : Past → Option View → Option View → Type 0
BecameThere past from to = IsSomeAnd from (λ a. IsSomeAnd to (λ b. Became past a b))

-- the one goes for the other: it leads there; in a log of the later edition both are one
abbrev pub GoesFor : Edition → Past → Option View → Option View → Type 0
GoesFor First past from to = LeadsTo past from to
GoesFor Later past from to = AreOneThere past from to

-- the one went on to the other, which is given by a number of the sender's own or not: it leads there by 1 or more turns; in
-- a log of the later edition it only became what such a number stands for
abbrev pub WentOn : Edition → Bool → Past → Option View → Option View → Type 0
WentOn First own past from to = LeadsOnTo past from to
WentOn Later false past from to = LeadsOnTo past from to
WentOn Later true past from to = BecameThere past from to

-- every end of the view is so; where there is no view, or its walk stops or goes in a circle, it has none
abbrev pub EndsIn : Past → Option View → (View → Type 0) → Type 0
EndsIn past from P = (end : View) → IsSomeAnd from (λ a. IsEnd past a end) → P end
