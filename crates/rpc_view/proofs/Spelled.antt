-- What is spelled as a message is read as it.
use Rattle.std.proofs.Common.{◌≡◌, ℕ, suc, ◌+◌, ◌-◌, ◌*◌, ◌/◌, ◌%◌, ◌^◌, ◌<◌, ◌≤◌, true, false, List, [], ◌∷◌, Ok, refl, arith}
use Rattle.cap_reader.specs.declared.limits.Limits.{Limits}
use Rattle.cap_reader.specs.Pointers.{pointer_of, start_from, extent, pointee_of, pointee_behind}
use Rattle.cap_reader.specs.Tree.{structure_at, elements_behind, list_there, tree_behind}
use Rattle.cap_reader.specs.Reading.{pay_for, and_then, each}
use Rattle.cap_reader.specs.Fields.{fields_in}
use Rattle.rpc_view.specs.declared.edition.Edition.{Edition}
use Rattle.rpc_view.specs.declared.edition.Edition.TheVariants.{First, Later}
use Rattle.rpc_view.specs.declared.message.RpcMessage.{RpcMessage}
use Rattle.rpc_view.specs.declared.message.Loopback.TheVariants.{Sender, Receiver}
use Rattle.rpc_view.specs.Reading.{part}
use Rattle.rpc_view.specs.Message.{message_of, message_in, body_in, bootstrap_in, unless_refused, call_in, called_in, return_in, returned_in, outcome_in, finish_in, resolve_in, release_in, disembargo_in, disembargoed_in, target_in, promised_in, operations_in, payload_in, descriptors_in, descriptor_in, described_in}
use Rattle.rpc_view.specs.Spelling.{Spells, bootstrap, call, import_call, yourself_call, exception, canceled, elsewhere, taken, results, finish, resolve, broken, release, disembargo, abort}
use Rattle.rpc_view.proofs.Prices.{with_more}
use Rattle.rpc_view.proofs.Editions.{reads_more}

-- ---- numbers in their parts of a word

first_of_32 : (n : ℕ) → n < 2 ^ 32 → (n / 1) % 2 ^ 32 ≡ n
first_of_32 n lt = omega arith

bit_32 : (n : ℕ) → n < 2 ^ 32 → (n / 2 ^ 32) % 2 ≡ 0
bit_32 n lt = omega arith

bit_33 : (n : ℕ) → n < 2 ^ 32 → (n / 2 ^ 33) % 2 ≡ 0
bit_33 n lt = omega arith

third_of_16 : (n : ℕ) → n < 2 ^ 32 → (n / 2 ^ 32) % 2 ^ 16 ≡ 0
third_of_16 n lt = omega arith

last_of_16 : (n : ℕ) → n < 2 ^ 32 → (n / 2 ^ 48) % 2 ^ 16 ≡ 0
last_of_16 n lt = omega arith

tag_before : (n : ℕ) → n < 2 ^ 32 → ((1 + 4294967296 * n) / 1) % 2 ^ 16 ≡ 1
tag_before n lt = omega arith

behind_tag : (n : ℕ) → n < 2 ^ 32 → ((1 + 4294967296 * n) / 2 ^ 32) % 2 ^ 32 ≡ n
behind_tag n lt = omega arith

before : (n m : ℕ) → n < 2 ^ 32 → ((n + 4294967296 * m) / 1) % 2 ^ 32 ≡ n
before n m lt = omega arith

behind : (n m : ℕ) → n < 2 ^ 32 → m < 2 ^ 32 → ((n + 4294967296 * m) / 2 ^ 32) % 2 ^ 32 ≡ m
behind n m lt lt' = omega arith

third : (n m : ℕ) → n < 2 ^ 32 → m < 2 ^ 16 → ((n + 4294967296 * m) / 2 ^ 32) % 2 ^ 16 ≡ m
third n m lt lt' = omega arith

last : (n m : ℕ) → n < 2 ^ 32 → m < 2 ^ 16 → ((n + 4294967296 * m) / 2 ^ 48) % 2 ^ 16 ≡ 0
last n m lt lt' = omega arith

before_bit : (n : ℕ) → n < 2 ^ 32 → ((n + 4294967296) / 1) % 2 ^ 32 ≡ n
before_bit n lt = omega arith

bit_set : (n : ℕ) → n < 2 ^ 32 → ((n + 4294967296) / 2 ^ 32) % 2 ≡ 1
bit_set n lt = omega arith

tag_set : (n : ℕ) → n < 2 ^ 32 → ((n + 4294967296) / 2 ^ 32) % 2 ^ 16 ≡ 1
tag_set n lt = omega arith

before_none : (n : ℕ) → n < 2 ^ 32 → ((n + 0) / 1) % 2 ^ 32 ≡ n
before_none n lt = omega arith

bit_not_set : (n : ℕ) → n < 2 ^ 32 → ((n + 0) / 2 ^ 32) % 2 ≡ 0
bit_not_set n lt = omega arith

tag_not_set : (n : ℕ) → n < 2 ^ 32 → ((n + 0) / 2 ^ 32) % 2 ^ 16 ≡ 0
tag_not_set n lt = omega arith

-- the word of a Return without a pointer, by its tag and whether the bit of releaseParamCaps is set

bare_tag_1_0 : (n : ℕ) → n < 2 ^ 32 → (((n + 0) + 281474976710656) / 2 ^ 48) % 2 ^ 16 ≡ 1
bare_tag_1_0 n lt = omega arith

bare_later_1_0 : (n : ℕ) → n < 2 ^ 32 → (((n + 0) + 281474976710656) / 2 ^ 33) % 2 ≡ 0
bare_later_1_0 n lt = omega arith

bare_kept_1_0 : (n : ℕ) → n < 2 ^ 32 → (((n + 0) + 281474976710656) / 2 ^ 32) % 2 ≡ 0
bare_kept_1_0 n lt = omega arith

bare_answer_1_0 : (n : ℕ) → n < 2 ^ 32 → (((n + 0) + 281474976710656) / 1) % 2 ^ 32 ≡ n
bare_answer_1_0 n lt = omega arith

bare_tag_1_1 : (n : ℕ) → n < 2 ^ 32 → (((n + 4294967296) + 281474976710656) / 2 ^ 48) % 2 ^ 16 ≡ 1
bare_tag_1_1 n lt = omega arith

bare_later_1_1 : (n : ℕ) → n < 2 ^ 32 → (((n + 4294967296) + 281474976710656) / 2 ^ 33) % 2 ≡ 0
bare_later_1_1 n lt = omega arith

bare_kept_1_1 : (n : ℕ) → n < 2 ^ 32 → (((n + 4294967296) + 281474976710656) / 2 ^ 32) % 2 ≡ 1
bare_kept_1_1 n lt = omega arith

bare_answer_1_1 : (n : ℕ) → n < 2 ^ 32 → (((n + 4294967296) + 281474976710656) / 1) % 2 ^ 32 ≡ n
bare_answer_1_1 n lt = omega arith

bare_tag_2_0 : (n : ℕ) → n < 2 ^ 32 → (((n + 0) + 562949953421312) / 2 ^ 48) % 2 ^ 16 ≡ 2
bare_tag_2_0 n lt = omega arith

bare_later_2_0 : (n : ℕ) → n < 2 ^ 32 → (((n + 0) + 562949953421312) / 2 ^ 33) % 2 ≡ 0
bare_later_2_0 n lt = omega arith

bare_kept_2_0 : (n : ℕ) → n < 2 ^ 32 → (((n + 0) + 562949953421312) / 2 ^ 32) % 2 ≡ 0
bare_kept_2_0 n lt = omega arith

bare_answer_2_0 : (n : ℕ) → n < 2 ^ 32 → (((n + 0) + 562949953421312) / 1) % 2 ^ 32 ≡ n
bare_answer_2_0 n lt = omega arith

bare_tag_2_1 : (n : ℕ) → n < 2 ^ 32 → (((n + 4294967296) + 562949953421312) / 2 ^ 48) % 2 ^ 16 ≡ 2
bare_tag_2_1 n lt = omega arith

bare_later_2_1 : (n : ℕ) → n < 2 ^ 32 → (((n + 4294967296) + 562949953421312) / 2 ^ 33) % 2 ≡ 0
bare_later_2_1 n lt = omega arith

bare_kept_2_1 : (n : ℕ) → n < 2 ^ 32 → (((n + 4294967296) + 562949953421312) / 2 ^ 32) % 2 ≡ 1
bare_kept_2_1 n lt = omega arith

bare_answer_2_1 : (n : ℕ) → n < 2 ^ 32 → (((n + 4294967296) + 562949953421312) / 1) % 2 ^ 32 ≡ n
bare_answer_2_1 n lt = omega arith

bare_tag_3_0 : (n : ℕ) → n < 2 ^ 32 → (((n + 0) + 844424930131968) / 2 ^ 48) % 2 ^ 16 ≡ 3
bare_tag_3_0 n lt = omega arith

bare_later_3_0 : (n : ℕ) → n < 2 ^ 32 → (((n + 0) + 844424930131968) / 2 ^ 33) % 2 ≡ 0
bare_later_3_0 n lt = omega arith

bare_kept_3_0 : (n : ℕ) → n < 2 ^ 32 → (((n + 0) + 844424930131968) / 2 ^ 32) % 2 ≡ 0
bare_kept_3_0 n lt = omega arith

bare_answer_3_0 : (n : ℕ) → n < 2 ^ 32 → (((n + 0) + 844424930131968) / 1) % 2 ^ 32 ≡ n
bare_answer_3_0 n lt = omega arith

bare_tag_3_1 : (n : ℕ) → n < 2 ^ 32 → (((n + 4294967296) + 844424930131968) / 2 ^ 48) % 2 ^ 16 ≡ 3
bare_tag_3_1 n lt = omega arith

bare_later_3_1 : (n : ℕ) → n < 2 ^ 32 → (((n + 4294967296) + 844424930131968) / 2 ^ 33) % 2 ≡ 0
bare_later_3_1 n lt = omega arith

bare_kept_3_1 : (n : ℕ) → n < 2 ^ 32 → (((n + 4294967296) + 844424930131968) / 2 ^ 32) % 2 ≡ 1
bare_kept_3_1 n lt = omega arith

bare_answer_3_1 : (n : ℕ) → n < 2 ^ 32 → (((n + 4294967296) + 844424930131968) / 1) % 2 ^ 32 ≡ n
bare_answer_3_1 n lt = omega arith

bare_tag_4_0 : (n : ℕ) → n < 2 ^ 32 → (((n + 0) + 1125899906842624) / 2 ^ 48) % 2 ^ 16 ≡ 4
bare_tag_4_0 n lt = omega arith

bare_later_4_0 : (n : ℕ) → n < 2 ^ 32 → (((n + 0) + 1125899906842624) / 2 ^ 33) % 2 ≡ 0
bare_later_4_0 n lt = omega arith

bare_kept_4_0 : (n : ℕ) → n < 2 ^ 32 → (((n + 0) + 1125899906842624) / 2 ^ 32) % 2 ≡ 0
bare_kept_4_0 n lt = omega arith

bare_answer_4_0 : (n : ℕ) → n < 2 ^ 32 → (((n + 0) + 1125899906842624) / 1) % 2 ^ 32 ≡ n
bare_answer_4_0 n lt = omega arith

bare_tag_4_1 : (n : ℕ) → n < 2 ^ 32 → (((n + 4294967296) + 1125899906842624) / 2 ^ 48) % 2 ^ 16 ≡ 4
bare_tag_4_1 n lt = omega arith

bare_later_4_1 : (n : ℕ) → n < 2 ^ 32 → (((n + 4294967296) + 1125899906842624) / 2 ^ 33) % 2 ≡ 0
bare_later_4_1 n lt = omega arith

bare_kept_4_1 : (n : ℕ) → n < 2 ^ 32 → (((n + 4294967296) + 1125899906842624) / 2 ^ 32) % 2 ≡ 1
bare_kept_4_1 n lt = omega arith

bare_answer_4_1 : (n : ℕ) → n < 2 ^ 32 → (((n + 4294967296) + 1125899906842624) / 1) % 2 ^ 32 ≡ n
bare_answer_4_1 n lt = omega arith

-- the first word of a Call whose results stay with their answerer

yourself_tag : (n m : ℕ) → n < 2 ^ 32 → m < 2 ^ 16 → (((n + 4294967296 * m) + 281474976710656) / 2 ^ 48) % 2 ^ 16 ≡ 1
yourself_tag n m lt lt' = omega arith

yourself_method : (n m : ℕ) → n < 2 ^ 32 → m < 2 ^ 16 → (((n + 4294967296 * m) + 281474976710656) / 2 ^ 32) % 2 ^ 16 ≡ m
yourself_method n m lt lt' = omega arith

yourself_question : (n m : ℕ) → n < 2 ^ 32 → (((n + 4294967296 * m) + 281474976710656) / 1) % 2 ^ 32 ≡ n
yourself_question n m lt = omega arith

-- ---- with just the words that it costs

at_price : (words : List ℕ) (message : RpcMessage) (cost least depth : ℕ) → Spells words message cost least → least ≤ depth → message_of First (words ∷ []) (record { words = cost; depth = depth }) ≡ Ok message
unfolding message_of message_in body_in bootstrap_in unless_refused call_in called_in return_in returned_in outcome_in finish_in resolve_in release_in disembargo_in disembargoed_in target_in promised_in operations_in payload_in descriptors_in descriptor_in described_in part each fields_in pay_for and_then structure_at elements_behind list_there tree_behind extent pointee_of pointee_behind pointer_of start_from
at_price words message cost least depth (bootstrap {question} fits) deep =
    let d : depth ≡ suc (suc (depth - 2)) = omega arith in
    rw (d, message_of, first_of_32 question fits) refl
at_price words message cost least depth (call {question} {answer} {interface} {method} question_fits answer_fits method_fits) deep =
    let d : depth ≡ suc (suc (suc (suc (depth - 4)))) = omega arith in
    rw (d, message_of, last question method question_fits method_fits, before question method question_fits, third question method question_fits method_fits, first_of_32 answer answer_fits) refl
at_price words message cost least depth (import_call {question} {export} {interface} {method} question_fits export_fits method_fits) deep =
    let d : depth ≡ suc (suc (suc (depth - 3))) = omega arith in
    rw (d, message_of, last question method question_fits method_fits, third_of_16 export export_fits, before question method question_fits, third question method question_fits method_fits, first_of_32 export export_fits) refl
at_price words message cost least depth (yourself_call {question} {export} {interface} {method} question_fits export_fits method_fits) deep =
    let d : depth ≡ suc (suc (suc (depth - 3))) = omega arith in
    rw (d, message_of, yourself_tag question method question_fits method_fits, third_of_16 export export_fits, yourself_question question method question_fits, yourself_method question method question_fits method_fits, first_of_32 export export_fits) refl
at_price words message cost least depth (exception {answer} {released = true} fits) deep =
    let d : depth ≡ suc (suc (depth - 2)) = omega arith in
    rw (d, message_of, bare_tag_1_0 answer fits, bare_later_1_0 answer fits, bare_kept_1_0 answer fits, bare_answer_1_0 answer fits) refl
at_price words message cost least depth (exception {answer} {released = false} fits) deep =
    let d : depth ≡ suc (suc (depth - 2)) = omega arith in
    rw (d, message_of, bare_tag_1_1 answer fits, bare_later_1_1 answer fits, bare_kept_1_1 answer fits, bare_answer_1_1 answer fits) refl
at_price words message cost least depth (canceled {answer} {released = true} fits) deep =
    let d : depth ≡ suc (suc (depth - 2)) = omega arith in
    rw (d, message_of, bare_tag_2_0 answer fits, bare_later_2_0 answer fits, bare_kept_2_0 answer fits, bare_answer_2_0 answer fits) refl
at_price words message cost least depth (canceled {answer} {released = false} fits) deep =
    let d : depth ≡ suc (suc (depth - 2)) = omega arith in
    rw (d, message_of, bare_tag_2_1 answer fits, bare_later_2_1 answer fits, bare_kept_2_1 answer fits, bare_answer_2_1 answer fits) refl
at_price words message cost least depth (elsewhere {answer} {released = true} fits) deep =
    let d : depth ≡ suc (suc (depth - 2)) = omega arith in
    rw (d, message_of, bare_tag_3_0 answer fits, bare_later_3_0 answer fits, bare_kept_3_0 answer fits, bare_answer_3_0 answer fits) refl
at_price words message cost least depth (elsewhere {answer} {released = false} fits) deep =
    let d : depth ≡ suc (suc (depth - 2)) = omega arith in
    rw (d, message_of, bare_tag_3_1 answer fits, bare_later_3_1 answer fits, bare_kept_3_1 answer fits, bare_answer_3_1 answer fits) refl
at_price words message cost least depth (taken {answer} {question} {released = true} fits question_fits) deep =
    let d : depth ≡ suc (suc (depth - 2)) = omega arith in
    rw (d, message_of, bare_tag_4_0 answer fits, bare_later_4_0 answer fits, bare_kept_4_0 answer fits, bare_answer_4_0 answer fits, first_of_32 question question_fits) refl
at_price words message cost least depth (taken {answer} {question} {released = false} fits question_fits) deep =
    let d : depth ≡ suc (suc (depth - 2)) = omega arith in
    rw (d, message_of, bare_tag_4_1 answer fits, bare_later_4_1 answer fits, bare_kept_4_1 answer fits, bare_answer_4_1 answer fits, first_of_32 question question_fits) refl
at_price words message cost least depth (results {answer} {export} answer_fits export_fits) deep =
    let d : depth ≡ suc (suc (suc (suc (depth - 4)))) = omega arith in
    rw (d, message_of, last_of_16 answer answer_fits, bit_33 answer answer_fits, tag_before export export_fits, bit_32 answer answer_fits, first_of_32 answer answer_fits, behind_tag export export_fits) refl
at_price words message cost least depth (finish {question} {released = true} fits) deep =
    let d : depth ≡ suc (suc (depth - 2)) = omega arith in
    rw (d, message_of, before_none question fits, bit_not_set question fits) refl
at_price words message cost least depth (finish {question} {released = false} fits) deep =
    let d : depth ≡ suc (suc (depth - 2)) = omega arith in
    rw (d, message_of, before_bit question fits, bit_set question fits) refl
at_price words message cost least depth (resolve {promise} {export} promise_fits export_fits) deep =
    let d : depth ≡ suc (suc (suc (depth - 3))) = omega arith in
    rw (d, message_of, third_of_16 promise promise_fits, tag_before export export_fits, first_of_32 promise promise_fits, behind_tag export export_fits) refl
at_price words message cost least depth (broken {promise} fits) deep =
    let d : depth ≡ suc (suc (depth - 2)) = omega arith in
    rw (d, message_of, tag_set promise fits, before_bit promise fits) refl
at_price words message cost least depth (release {id} {count} id_fits count_fits) deep =
    let d : depth ≡ suc (suc (depth - 2)) = omega arith in
    rw (d, message_of, before id count id_fits, behind id count id_fits count_fits) refl
at_price words message cost least depth (disembargo {number} {export} {loopback = Sender} number_fits export_fits) deep =
    let d : depth ≡ suc (suc (suc (depth - 3))) = omega arith in
    rw (d, message_of, tag_not_set number number_fits, before_none number number_fits, third_of_16 export export_fits, first_of_32 export export_fits) refl
at_price words message cost least depth (disembargo {number} {export} {loopback = Receiver} number_fits export_fits) deep =
    let d : depth ≡ suc (suc (suc (depth - 3))) = omega arith in
    rw (d, message_of, tag_set number number_fits, before_bit number number_fits, third_of_16 export export_fits, first_of_32 export export_fits) refl
at_price words message cost least depth abort deep =
    let d : depth ≡ suc (depth - 1) = omega arith in
    rw d refl

-- the later edition reads it too
by_edition : (edition : Edition) (segments : List (List ℕ)) (limits : Limits) (message : RpcMessage) → message_of First segments limits ≡ Ok message → message_of edition segments limits ≡ Ok message
by_edition First segments limits message h = h
by_edition Later segments limits message h = (reads_more segments limits message h).0

pub spelled_again : (edition : Edition) (segments : List (List ℕ)) (limits : Limits) (words : List ℕ) (message : RpcMessage) (cost depth : ℕ) → Spells words message cost depth → segments ≡ words ∷ [] → cost ≤ limits.words → depth ≤ limits.depth → message_of edition segments limits ≡ Ok message
spelled_again edition segments limits words message cost depth spells same enough deep =
    let least : message_of First segments (record { words = cost; depth = limits.depth }) ≡ Ok message = rw same (at_price words message cost depth limits.depth spells deep) in
    by_edition edition segments limits message (with_more First segments limits.depth cost limits.words message least enough)
