-- Higher limits never change a message: what is read of trees that are cut at some depth is read of the whole trees too.
use Rattle.std.proofs.Common.{◌≡◌, ℕ, zero, suc, ◌+◌, ◌≤◌, ◌∙◌, Bool, true, false, cond, List, [], ◌∷◌, ◌++◌, Option, Some, None, Result, Ok, Err, refl, sym, arith}
use Rattle.std.specs.Prelude.{nat_lt, if◌then◌else◌}
use Rattle.cap_frame.specs.declared.frame_error.FrameError.{FrameError}
use Rattle.cap_reader.specs.declared.limits.Limits.{Limits}
use Rattle.cap_reader.specs.declared.pointee.Pointee.{Pointee}
use Rattle.cap_reader.specs.declared.pointee.Pointee.TheVariants as leads
use Rattle.cap_reader.specs.declared.read_error.ReadError.{ReadError}
use Rattle.cap_reader.specs.declared.read_error.ReadError.TheVariants as reads
use Rattle.cap_reader.specs.Pointers.{extent, pointee_at}
use Rattle.cap_reader.specs.Tree.{Tree, nothing, structure, bad_structure, composite, bad_composite, plain, bad_plain, capability, reserved, unfollowed, structure_there, composite_there, plain_there, plain_words, list_there, elements_behind, tree_behind, structure_at, root_tree}
use Rattle.cap_reader.specs.Reading.{Reading, done, fault, and_then, structure_in, elements_in, root_in, or_default, Sections, Elements}
use Rattle.cap_reader.specs.Fields.{fields_in}
use Rattle.rpc_view.specs.declared.edition.Edition.{Edition}
use Rattle.rpc_view.specs.declared.message.RpcMessage.{RpcMessage}
use Rattle.rpc_view.specs.declared.view_error.ViewError.{ViewError}
use Rattle.rpc_view.specs.Reading.{part, struct_in, list_in, or_empty}
use Rattle.rpc_view.specs.Layouts.{message_tag}
use Rattle.rpc_view.specs.Message.{message_of, message_in_frame, message_in, body_in, bootstrap_in, unless_refused, call_in, called_in, return_in, returned_in, outcome_in, finish_in, resolve_in, release_in, disembargo_in, disembargoed_in, target_in, promised_in, operation_in, operations_in, payload_in, descriptors_in, descriptor_in, described_in}
use Rattle.rpc_view.proofs.Keeping.{Keeps, keeps_then, Same, same_then, kept, each_keeps, part_keeps, raised}

-- ---- trees

-- the first is the second, but for what is refused in the first
unfoldable Cut : Tree → Tree → Type 0
Cut nothing other = other ≡ nothing
Cut (structure data_words word pointer_count child) other =
    (whole : ℕ → Tree) × (other ≡ structure data_words word pointer_count whole) × ((n : ℕ) → Cut (child n) (whole n))
Cut (bad_structure e) other = Unit {0}
Cut (composite count element) other = (whole : ℕ → Tree) × (other ≡ composite count whole) × ((i : ℕ) → Cut (element i) (whole i))
Cut (bad_composite e) other = Unit {0}
Cut (plain element_size count word) other = other ≡ plain element_size count word
Cut (bad_plain element_size e) other = Unit {0}
Cut (capability index) other = other ≡ capability index
Cut reserved other = Unit {0}
Cut (unfollowed e) other = Unit {0}

cut_choice : (b : Bool) (x y v w : Tree) → Cut x v → Cut y w → Cut (cond b x y) (cond b v w)
cut_choice true x y v w p q = p
cut_choice false x y v w p q = q

cut_elements : (count : ℕ) (element whole : ℕ → Tree) → ((i : ℕ) → Cut (element i) (whole i)) → Cut (composite count element) (composite count whole)
unfolding Cut
cut_elements count element whole p = (whole, refl, p)

cut_bad : (e : ReadError) (other : Tree) → Cut (bad_composite e) other
unfolding Cut
cut_bad e other = tt

cut_nothing : Cut nothing nothing
unfolding Cut
cut_nothing = refl

cut_plain_there : (segments : List (List ℕ)) (segment element_size count : ℕ) (start : Option ℕ) → Cut (plain_there segments segment element_size count start) (plain_there segments segment element_size count start)
unfolding Cut
cut_plain_there segments segment element_size count None = tt
cut_plain_there segments segment element_size count (Some start) = refl

module _ (made whole : ℕ → ℕ → ℕ → Tree) (cut : (start data_words pointer_count : ℕ) → Cut (made start data_words pointer_count) (whole start data_words pointer_count)) where
  cut_structure_there : (data_words pointer_count : ℕ) (start : Option ℕ) → Cut (structure_there (λ at. made at data_words pointer_count) start) (structure_there (λ at. whole at data_words pointer_count) start)
  unfolding Cut
  cut_structure_there data_words pointer_count None = tt
  cut_structure_there data_words pointer_count (Some start) = cut start data_words pointer_count

  cut_composite_there : (segments : List (List ℕ)) (segment size : ℕ) (place : Option ℕ) → Cut (composite_there made segments segment size place) (composite_there whole segments segment size place)
  unfolding elements_behind
  cut_composite_there segments segment size None = cut_bad reads.OutOfSegment _
  cut_composite_there segments segment size (Some tag_at) =
      cut_choice _ _ _ _ _ (cut_choice _ _ _ _ _ (cut_elements _ _ _ (λ i. cut_choice _ _ _ _ _ (cut _ _ _) cut_nothing)) (cut_bad reads.OutOfSegment _)) (cut_bad reads.WrongKind _)

  cut_list : (segments : List (List ℕ)) (segment : ℕ) (start : Option ℕ) (element_size count : ℕ) → Cut (list_there made segments segment start element_size count) (list_there whole segments segment start element_size count)
  unfolding list_there
  cut_list segments segment start element_size count =
      cut_choice _ _ _ _ _ (cut_composite_there segments segment count (extent segments segment start 1)) (cut_plain_there segments segment element_size count (extent segments segment start (plain_words element_size count)))

cut_pointed : (made whole : ℕ → ℕ → ℕ → ℕ → Tree) → ((segment start data_words pointer_count : ℕ) → Cut (made segment start data_words pointer_count) (whole segment start data_words pointer_count)) → (segments : List (List ℕ)) (lead : Result Pointee ReadError) → Cut (tree_behind made segments lead) (tree_behind whole segments lead)
unfolding Cut tree_behind
cut_pointed made whole cut segments (Err e) = tt
cut_pointed made whole cut segments (Ok leads.Null) = refl
cut_pointed made whole cut segments (Ok (leads.Struct segment start data_words pointer_count)) =
    cut_structure_there (made segment) (whole segment) (cut segment) data_words pointer_count (extent segments segment start (data_words + pointer_count))
cut_pointed made whole cut segments (Ok (leads.List segment start element_size count)) = cut_list (made segment) (whole segment) (cut segment) segments segment start element_size count
cut_pointed made whole cut segments (Ok (leads.Capability index)) = refl
cut_pointed made whole cut segments (Ok leads.Reserved) = tt

cut_structure : (depth deeper : ℕ) → depth ≤ deeper → (segments : List (List ℕ)) (segment start data_words pointer_count : ℕ) → Cut (structure_at depth segments segment start data_words pointer_count) (structure_at deeper segments segment start data_words pointer_count)
unfolding Cut structure_at
cut_structure zero deeper le segments segment start data_words pointer_count = tt
cut_structure (suc depth) zero le segments segment start data_words pointer_count = absurd (omega (arith, le))
cut_structure (suc depth) (suc deeper) le segments segment start data_words pointer_count = (
  _,
  refl,
  λ n. cut_choice (nat_lt n pointer_count) _ _ _ _ (cut_pointed (structure_at depth segments) (structure_at deeper segments) (cut_structure depth deeper (omega (arith, le)) segments) segments (pointee_at segments segment (start + data_words + n))) cut_nothing,
)

cut_root : (depth deeper : ℕ) → depth ≤ deeper → (segments : List (List ℕ)) → Cut (root_tree depth segments) (root_tree deeper segments)
cut_root depth deeper le segments = cut_pointed (structure_at depth segments) (structure_at deeper segments) (cut_structure depth deeper le segments) segments (pointee_at segments 0 0)

-- ---- structs and lists

abbrev with_child : Sections → (ℕ → Tree) → Sections
with_child sections child = record { data_words = sections.data_words; word = sections.word; pointer_count = sections.pointer_count; child = child }

abbrev with_element : Elements → (ℕ → Tree) → Elements
with_element elements element = record { count = elements.count; element = element }

abbrev CutSections : Sections → Sections → Type 0
CutSections sections other = (whole : ℕ → Tree) × (other ≡ with_child sections whole) × ((n : ℕ) → Cut (sections.child n) (whole n))

abbrev CutElements : Elements → Elements → Type 0
CutElements elements other = (whole : ℕ → Tree) × (other ≡ with_element elements whole) × ((i : ℕ) → Cut (elements.element i) (whole i))

abbrev IfFound : {A : Type 0} → (A → A → Type 0) → Option A → Option A → Type 0
IfFound {A} R None other = other ≡ None
IfFound {A} R (Some found) other = (whole : A) × (other ≡ Some whole) × R found whole

structure_keeps : (tree other : Tree) → Cut tree other → Keeps (IfFound CutSections) (structure_in tree) (structure_in other)
unfolding Cut Keeps
structure_keeps nothing other p = rw p refl
structure_keeps (structure data_words word pointer_count child) other p = rw p.1 (refl, (_, refl, (p.0, refl, p.2)))
structure_keeps (bad_structure e) other p = tt
structure_keeps (composite count element) other p = tt
structure_keeps (bad_composite e) other p = tt
structure_keeps (plain element_size count word) other p = tt
structure_keeps (bad_plain element_size e) other p = tt
structure_keeps (capability index) other p = tt
structure_keeps reserved other p = tt
structure_keeps (unfollowed e) other p = tt

elements_keep : (tree other : Tree) → Cut tree other → Keeps (IfFound CutElements) (elements_in tree) (elements_in other)
unfolding Cut Keeps
elements_keep nothing other p = rw p refl
elements_keep (structure data_words word pointer_count child) other p = tt
elements_keep (bad_structure e) other p = tt
elements_keep (composite count element) other p = rw p.1 (_, refl, (p.0, refl, p.2))
elements_keep (bad_composite e) other p = tt
elements_keep (plain element_size count word) other p = tt
elements_keep (bad_plain element_size e) other p = tt
elements_keep (capability index) other p = tt
elements_keep reserved other p = tt
elements_keep (unfollowed e) other p = tt

sections_or : (found other : Option Sections) → IfFound CutSections found other → CutSections (or_default found) (or_default other)
sections_or None other p = rw p ((λ n. nothing), refl, λ n. cut_nothing)
sections_or (Some sections) other p = rw p.1 p.2

elements_or : (found other : Option Elements) → IfFound CutElements found other → CutElements (or_empty found) (or_empty other)
elements_or None other p = rw p ((λ i. nothing), refl, λ i. cut_nothing)
elements_or (Some elements) other p = rw p.1 p.2

struct_keeps : (tree other : Tree) → Cut tree other → Keeps CutSections (struct_in tree) (struct_in other)
unfolding Keeps
struct_keeps tree other p =
    part_keeps CutSections (root_in tree) (root_in other) (keeps_then (IfFound CutSections) CutSections _ _ sections_or (structure_in tree) (structure_in other) (structure_keeps tree other p))

abbrev empty_or : Option Elements → Reading ReadError Elements
empty_or found = done (or_empty found)

list_keeps : (tree other : Tree) → Cut tree other → Keeps CutElements (list_in tree) (list_in other)
unfolding Keeps
list_keeps tree other p =
    part_keeps CutElements (and_then (elements_in tree) empty_or) (and_then (elements_in other) empty_or) (keeps_then (IfFound CutElements) CutElements empty_or empty_or elements_or (elements_in tree) (elements_in other) (elements_keep tree other p))

fields_keep : (tree other : Tree) → Cut tree other → (path : List ℕ) → Keeps Same (fields_in path tree) (fields_in path other)
unfolding Cut Keeps fields_in
fields_keep nothing other p path = rw p refl
fields_keep (structure data_words word pointer_count child) other p path =
    rw p.1 (refl, each_keeps _ _ (λ n. fields_keep (child n) (p.0 n) (p.2 n) (path ++ n ∷ [])) pointer_count 0)
fields_keep (bad_structure e) other p path = tt
fields_keep (composite count element) other p path = rw p.1 refl
fields_keep (bad_composite e) other p path = tt
fields_keep (plain element_size count word) other p path = rw p refl
fields_keep (bad_plain element_size e) other p path = tt
fields_keep (capability index) other p path = rw p refl
fields_keep reserved other p path = tt
fields_keep (unfollowed e) other p path = tt

-- ---- messages

abbrev Whole : {A : Type 0} → Reading ViewError A → Reading ViewError A → Type 0
Whole reading other = Keeps Same reading other

given : {A : Type 0} (value : A) → Whole (done value) (done value)
given value = kept ViewError value

refused : (A : Type 0) (e : ViewError) (other : Reading ViewError A) → Whole (fault e) other
unfolding Keeps
refused A e other = tt

choice : {A : Type 0} (b : Bool) (x y v w : Reading ViewError A) → Whole x v → Whole y w → Whole (if b then x else y) (if b then v else w)
choice true x y v w p q = p
choice false x y v w p q = q

of_struct : {A : Type 0} (tree other : Tree) (next : Sections → Reading ViewError A) → Cut tree other
    → ((sections : Sections) (whole : ℕ → Tree) → ((n : ℕ) → Cut (sections.child n) (whole n)) → Whole (next sections) (next (with_child sections whole))) → Whole (and_then (struct_in tree) next) (and_then (struct_in other) next)
of_struct tree other next c p = keeps_then CutSections Same next next (λ sections all h. rw h.1 (p sections h.0 h.2)) (struct_in tree) (struct_in other) (struct_keeps tree other c)

of_list : {A : Type 0} (tree other : Tree) (next others : Elements → Reading ViewError A) → Cut tree other
    → ((elements : Elements) (whole : ℕ → Tree) → ((i : ℕ) → Cut (elements.element i) (whole i)) → Whole (next elements) (others (with_element elements whole))) → Whole (and_then (list_in tree) next) (and_then (list_in other) others)
of_list tree other next others c p = keeps_then CutElements Same next others (λ elements all h. rw h.1 (p elements h.0 h.2)) (list_in tree) (list_in other) (list_keeps tree other c)

of_both : {A B : Type 0} (reading other : Reading ViewError A) (next others : A → Reading ViewError B) → Whole reading other → ((value : A) → Whole (next value) (others value)) → Whole (and_then reading next) (and_then other others)
of_both reading other next others p q = same_then reading other next others p q

operation_whole : (tree other : Tree) → Cut tree other → Whole (operation_in tree) (operation_in other)
unfolding operation_in
operation_whole tree other c = of_struct tree other _ c (λ operation whole p. search (choice, given, refused))

operations_whole : (operations : Elements) (whole : ℕ → Tree) → ((i : ℕ) → Cut (operations.element i) (whole i)) → Whole (operations_in operations) (operations_in (with_element operations whole))
unfolding operations_in
operations_whole operations whole p = each_keeps _ _ (λ i. operation_whole (operations.element i) (whole i) (p i)) operations.count 0

promised_whole : (tree other : Tree) → Cut tree other → Whole (promised_in tree) (promised_in other)
unfolding promised_in
promised_whole tree other c = of_struct tree other _ c (λ promised whole p. of_list (promised.child 0) (whole 0) _ _ (p 0) (λ operations all q. of_both (operations_in operations) (operations_in (with_element operations all)) _ _ (operations_whole operations all q) (λ path. given _)))

target_whole : (tree other : Tree) → Cut tree other → Whole (target_in tree) (target_in other)
unfolding target_in
target_whole tree other c = of_struct tree other _ c (λ target whole p. search (choice, given, refused, of_both, promised_whole, p))

described_whole : (descriptor : Sections) (whole : ℕ → Tree) → ((n : ℕ) → Cut (descriptor.child n) (whole n)) → Whole (described_in descriptor) (described_in (with_child descriptor whole))
unfolding described_in
described_whole descriptor whole p = search (choice, given, refused, of_both, promised_whole, p) depth 9

descriptor_whole : (tree other : Tree) → Cut tree other → Whole (descriptor_in tree) (descriptor_in other)
unfolding descriptor_in
descriptor_whole tree other c = of_struct tree other _ c described_whole

descriptors_whole : (table : Elements) (whole : ℕ → Tree) → ((i : ℕ) → Cut (table.element i) (whole i)) → Whole (descriptors_in table) (descriptors_in (with_element table whole))
unfolding descriptors_in
descriptors_whole table whole p =
    each_keeps _ _ (λ i. of_both (descriptor_in (table.element i)) (descriptor_in (whole i)) _ _ (descriptor_whole (table.element i) (whole i) (p i)) (λ descriptor. given _)) table.count 0

payload_whole : (tree other : Tree) → Cut tree other → Whole (payload_in tree) (payload_in other)
unfolding payload_in
payload_whole tree other c = of_struct tree other _ c (λ payload whole p.
    of_list (payload.child 1) (whole 1) _ _ (p 1) (λ table all q.
    of_both (descriptors_in table) (descriptors_in (with_element table all)) _ _ (descriptors_whole table all q) (λ entries.
    of_both (part (fields_in [] (payload.child 0))) (part (fields_in [] (whole 0))) _ _ (part_keeps Same (fields_in [] (payload.child 0)) (fields_in [] (whole 0)) (fields_keep (payload.child 0) (whole 0) (p 0) [])) (λ fields. given _))))

module _ (sections : Sections) (whole : ℕ → Tree) (p : (n : ℕ) → Cut (sections.child n) (whole n)) where
  called_whole : Whole (called_in sections) (called_in (with_child sections whole))
  unfolding called_in
  called_whole = of_both (target_in (sections.child 0)) (target_in (whole 0)) _ _ (target_whole (sections.child 0) (whole 0) (p 0)) (λ target.
      of_both (payload_in (sections.child 1)) (payload_in (whole 1)) _ _ (payload_whole (sections.child 1) (whole 1) (p 1)) (λ params. given _))

  outcome_whole : Whole (outcome_in sections) (outcome_in (with_child sections whole))
  unfolding outcome_in
  outcome_whole = search (choice, given, refused, of_both, payload_whole, p) depth 8

  returned_whole : Whole (returned_in sections) (returned_in (with_child sections whole))
  unfolding returned_in
  returned_whole = of_both (outcome_in sections) (outcome_in (with_child sections whole)) _ _ outcome_whole (λ outcome. given _)

  disembargoed_whole : (loopback : _) → Whole (disembargoed_in sections loopback) (disembargoed_in (with_child sections whole) loopback)
  unfolding disembargoed_in
  disembargoed_whole loopback = of_both (target_in (sections.child 0)) (target_in (whole 0)) _ _ (target_whole (sections.child 0) (whole 0) (p 0)) (λ target. given _)

module _ (edition : Edition) (tree other : Tree) (c : Cut tree other) where
  bootstrap_whole : Whole (bootstrap_in tree) (bootstrap_in other)
  unfolding bootstrap_in
  bootstrap_whole = of_struct tree other _ c (λ bootstrap whole p. given _)

  call_whole : Whole (call_in edition tree) (call_in edition other)
  unfolding call_in unless_refused
  call_whole = of_struct tree other _ c (λ call whole p. search (choice, refused, called_whole, p) depth 7)

  return_whole : Whole (return_in edition tree) (return_in edition other)
  unfolding return_in unless_refused
  return_whole = of_struct tree other _ c (λ answer whole p. search (choice, refused, returned_whole, p) depth 7)

  finish_whole : Whole (finish_in tree) (finish_in other)
  unfolding finish_in
  finish_whole = of_struct tree other _ c (λ finish whole p. given _)

  resolve_whole : Whole (resolve_in tree) (resolve_in other)
  unfolding resolve_in
  resolve_whole = of_struct tree other _ c (λ resolve whole p. search (choice, given, refused, of_both, descriptor_whole, p))

  release_whole : Whole (release_in tree) (release_in other)
  unfolding release_in
  release_whole = of_struct tree other _ c (λ release whole p. given _)

  disembargo_whole : Whole (disembargo_in tree) (disembargo_in other)
  unfolding disembargo_in
  disembargo_whole = of_struct tree other _ c (λ disembargo whole p. search (choice, refused, disembargoed_whole, p))

  body_whole : (tag : ℕ) → Whole (body_in edition tag tree) (body_in edition tag other)
  unfolding body_in
  body_whole tag = search (choice, given, refused, call_whole, return_whole, finish_whole, resolve_whole, release_whole, bootstrap_whole, disembargo_whole) depth 12

message_whole : (edition : Edition) (tree other : Tree) → Cut tree other → Whole (message_in edition tree) (message_in edition other)
unfolding message_in
message_whole edition tree other c = of_struct tree other _ c (λ message whole p. body_whole edition (message.child 0) (whole 0) (p 0) (message_tag message))

-- ---- what is answered

-- within higher limits it is the same message
pub stays : (edition : Edition) (segments : List (List ℕ)) (limits higher : Limits) (message : RpcMessage) → limits.words ≤ higher.words → limits.depth ≤ higher.depth → message_of edition segments limits ≡ Ok message → message_of edition segments higher ≡ Ok message
unfolding message_of
stays edition segments limits higher message words depth h =
    let p = raised Same (message_in edition (root_tree limits.depth segments)) (message_in edition (root_tree higher.depth segments)) limits.words higher.words message (message_whole edition (root_tree limits.depth segments) (root_tree higher.depth segments) (cut_root limits.depth higher.depth depth segments)) words h in
    rw p.2 p.1

pub stays_in_frame : (edition : Edition) (read : Result (List (List ℕ)) FrameError) (limits higher : Limits) (message : RpcMessage) → limits.words ≤ higher.words → limits.depth ≤ higher.depth → message_in_frame edition read limits ≡ Ok message → message_in_frame edition read higher ≡ Ok message
stays_in_frame edition (Ok segments) limits higher message words depth h = stays edition segments limits higher message words depth h
stays_in_frame edition (Err e) limits higher message words depth h = h

ok_is : (message other : RpcMessage) → ◌≡◌ {A = Result RpcMessage ViewError} (Ok message) (Ok other) → message ≡ other
ok_is message other h = cc

-- within any limits it is one message
pub is_one : (edition : Edition) (read : Result (List (List ℕ)) FrameError) (limits others : Limits) (message other : RpcMessage) → message_in_frame edition read limits ≡ Ok message → message_in_frame edition read others ≡ Ok other → message ≡ other
is_one edition read limits others message other h k =
    let both : Limits = record { words = limits.words + others.words; depth = limits.depth + others.depth } in
    ok_is message other (sym (stays_in_frame edition read limits both message (omega arith) (omega arith) h) ∙ stays_in_frame edition read others both other (omega arith) (omega arith) k)
