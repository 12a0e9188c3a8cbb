-- The table of a frame, read from its bytes.
use Rattle.std.proofs.Common.{◌≡◌, ℕ, ◌+◌, List, take, drop}
use Rattle.std.specs.Prelude.{slice_range, sum}
use Rattle.byteorder.specs.Endian.{little_number}
use Rattle.cap_frame.proofs.Frames.{sum_all}
use Rattle.cap_frame.proofs.Numbers.{number_cut}
use Rattle.cap_frame.specs.Segments.{segment_count, sizes_of}

-- a number is the same in the cut that is as long
pub number_cut_out : (width at : ℕ) (bytes : List ℕ) → little_number width (slice_range bytes at (at + width)) ≡ little_number width (drop at bytes)
number_cut_out width at bytes = number_cut width at bytes

-- the words of so many segments as there are
pub sum_of_all : (bytes : List ℕ) (n : ℕ) → n ≡ segment_count bytes → sum (take n (sizes_of bytes)) ≡ sum (sizes_of bytes)
sum_of_all bytes n all = sum_all bytes n all
