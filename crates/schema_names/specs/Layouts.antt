-- The structs of schema.capnp in which names stand: where each field is, under the names of its struct and field there.
-- Fields that aren't listed are unread. A field that a struct is too short for is 0 or null.
use Rattle.std.specs.Prelude.{ℕ}
use Rattle.cap_reader.specs.Tree.{Tree}
use Rattle.cap_reader.specs.Reading.{Sections}
use Rattle.cap_reader.specs.Places.{u16_in, u32_in, u64_in}

-- ---- CodeGeneratorRequest

-- nodes: "All nodes parsed by the compiler, including for the files on the command line and their imports."
abbrev pub request_nodes : Sections → Tree
request_nodes request = request.child 0

-- ---- Node

-- id: the number of the type, by which messages name an interface
abbrev pub node_id : Sections → ℕ
node_id node = u64_in 0 node.word

-- displayName: "Name to present to humans to identify this Node."
abbrev pub node_display_name : Sections → Tree
node_display_name node = node.child 0

-- displayNamePrefixLength: "If you want a shorter version of `displayName` (just naming this node, without its surrounding
-- scope), chop off this many characters from the beginning of `displayName`."
abbrev pub node_prefix_length : Sections → ℕ
node_prefix_length node = u32_in 8 node.word

-- "union": 0 file, 1 struct, 2 enum, 3 interface, 4 const, 5 annotation
abbrev pub node_tag : Sections → ℕ
node_tag node = u16_in 12 node.word

-- interface.methods: "Methods ordered by ordinal."
abbrev pub interface_methods : Sections → Tree
interface_methods node = node.child 3

-- ---- Method

-- name
abbrev pub method_name : Sections → Tree
method_name method = method.child 0
