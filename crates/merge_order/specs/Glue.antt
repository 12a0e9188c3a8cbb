-- For the code's contracts, and no part of the meaning: tables of how often connections came up, when they are those of a
-- log or of several, and how many records came.
use Rattle.std.specs.Prelude.{◌≡◌, ℕ, ◌+◌, ◌≤◌, ◌==◌, List, length, map, unwrap_or, if◌then◌else◌}
use Rattle.std.specs.List.{sum_by}
use Rattle.std.specs.List.Sorted.{IsStrictlyIncreasing}
use Rattle.std.specs.Ordering.{nat_cmp}
use Rattle.std.specs.BTreeMap.{get}
use Rattle.merge_order.specs.Fits.{Part, sent_so_far, received_so_far}
use Rattle.merge_order.specs.declared.connection_counts.ConnectionCounts.{ConnectionCounts}

-- how often a connection came up
abbrev pub count_on : ConnectionCounts → ℕ → ℕ
count_on table connection = unwrap_or (get nat_cmp table.counts connection) 0

-- none came up
abbrev pub IsEmpty : ConnectionCounts → Type 0
IsEmpty table = (connection : ℕ) → count_on table connection ≡ 0

-- one connection came up once more
abbrev pub IsRaisedByOne : ℕ → ConnectionCounts → ConnectionCounts → Type 0
IsRaisedByOne connection old new = (other : ℕ) → count_on new other ≡ count_on old other + (if connection == other then 1 else 0)

-- every count is as it was
abbrev pub HasSameCounts : ConnectionCounts → ConnectionCounts → Type 0
HasSameCounts old new = (connection : ℕ) → count_on new connection ≡ count_on old connection

-- what a cursor keeps: its tables say how many frames its log sent and received on each connection by now
pub record IsCounted (part : Part) (out into : ConnectionCounts) : Type 0 where
  pub within : part.came ≤ length part.log.records
  pub went : (connection : ℕ) → count_on out connection ≡ sent_so_far connection part
  pub came : (connection : ℕ) → count_on into connection ≡ received_so_far connection part

-- one record further
abbrev pub one_further : Part → Part
one_further part = record { log = part.log; came = part.came + 1 }

-- how many records came
abbrev pub came_by_all : List Part → ℕ
came_by_all parts = sum_by (λ part. part.came) parts

-- the totals rise by what a part sent more
abbrev pub RisesWith : Part → Part → ConnectionCounts → ConnectionCounts → Type 0
RisesWith old new totals later = (connection : ℕ) → count_on later connection + sent_so_far connection old ≡ count_on totals connection + sent_so_far connection new

-- the frames that all vats sent on the connection before
abbrev pub sent_by_all : ℕ → List Part → ℕ
sent_by_all connection parts = sum_by (sent_so_far connection) parts

-- what a progress keeps: the vat numbers rise, and the table says how many frames all vats sent on each connection by now
pub record IsTotalled (parts : List Part) (totals : ConnectionCounts) : Type 0 where
  pub rising : IsStrictlyIncreasing (map (λ part. part.log.vat) parts)
  pub sum : (connection : ℕ) → count_on totals connection ≡ sent_by_all connection parts
