-- A view whose path is lent is the view that it lends.
use Rattle.decoded_records.specs.declared.borrowed_view.BorrowedView.{BorrowedView}
use Rattle.decoded_records.specs.declared.borrowed_view.BorrowedView.TheVariants as borrowed
use Rattle.decoded_records.specs.Types.{View, Object, Promise, FieldOf, Import}

-- the view that is lent
abbrev pub as_view : BorrowedView → View
as_view (borrowed.Object object) = Object object
as_view (borrowed.Promise p) = Promise p
as_view (borrowed.Field call path) = FieldOf call path.now
as_view (borrowed.Import i place) = Import i place
