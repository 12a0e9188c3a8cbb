-- The names of a CodeGeneratorRequest, which a schema compiler writes for its plugins: of each interface its number, its
-- name and those of its methods. All other nodes are passed over.
use Rattle.std.specs.Prelude.{ℕ, ◌==◌, Bool, ◌&&◌, List, [], ◌∷◌, length, drop, Option, Some, None, Result, Ok, Err, nat_lt, nat_le, if◌then◌else◌}
use Rattle.std.specs.List.{list_all}
use Rattle.cap_frame.specs.declared.frame_error.FrameError.{FrameError}
use Rattle.cap_frame.specs.Segments.{segments_of}
use Rattle.cap_reader.specs.declared.limits.Limits.{Limits}
use Rattle.cap_reader.specs.Tree.{Tree, root_tree}
use Rattle.cap_reader.specs.Reading.{Reading, done, fault, ◌>>=◌, Sections, Elements, each}
use Rattle.schema_names.specs.declared.interface.SchemaInterface.{SchemaInterface}
use Rattle.schema_names.specs.declared.schema_error.SchemaError.{SchemaError}
use Rattle.schema_names.specs.declared.schema_error.SchemaError.TheVariants as errors
use Rattle.schema_names.specs.Reading.{schema_struct_in, schema_list_in, optional_text_in, run_schema}
use Rattle.schema_names.specs.Layouts.{request_nodes, node_id, node_display_name, node_prefix_length, node_tag, interface_methods, method_name}

-- ---- names

-- printable ASCII without the space, from ! to ~
abbrev pub is_name_letter : ℕ → Bool
is_name_letter byte = nat_le 33 byte && nat_le byte 126

-- a name has letters, and nothing else
abbrev pub is_name : List ℕ → Bool
is_name name = nat_lt 0 (length name) && list_all is_name_letter name

-- a text without so many bytes at its front; where it is null or no longer than they are, nothing is left
abbrev pub without_prefix : ℕ → Option (List ℕ) → List ℕ
without_prefix prefix None = []
without_prefix prefix (Some text) = drop prefix text

-- the name that is left
unfoldable pub named : List ℕ → Reading SchemaError (List ℕ)
named name = if is_name name then done name else fault errors.BadName

-- a name, in a text with so many bytes of something else before it
unfoldable pub name_behind : ℕ → Tree → Reading SchemaError (List ℕ)
name_behind prefix tree = do
  text ← optional_text_in tree
  named (without_prefix prefix text)

-- ---- nodes

-- Method
unfoldable pub method_in : Tree → Reading SchemaError (List ℕ)
method_in tree = do
  method ← schema_struct_in tree
  name_behind 0 (method_name method)

-- methods one by one: the place of each is the number by which a call names it
unfoldable pub methods_in : Elements → Reading SchemaError (List (List ℕ))
methods_in methods = each (λ i. method_in (methods.element i) >>= λ name. done (name ∷ [])) 0 methods.count

-- Node, of an interface
unfoldable pub interface_in : Sections → Reading SchemaError SchemaInterface
interface_in node = do
  name ← name_behind (node_prefix_length node) (node_display_name node)
  methods ← schema_list_in (interface_methods node)
  names ← methods_in methods
  done (record { id = node_id node; name = name; methods = names })

-- Node, a union by its tag: 3 is an interface
unfoldable pub node_in : Tree → Reading SchemaError (List SchemaInterface)
node_in tree = do
  node ← schema_struct_in tree
  if node_tag node == 3 then (interface_in node >>= λ interface. done (interface ∷ [])) else done []

-- nodes one by one
unfoldable pub each_node : Elements → Reading SchemaError (List SchemaInterface)
each_node nodes = each (λ i. node_in (nodes.element i)) 0 nodes.count

-- a compiler writes one node for each file at least
unfoldable pub nodes_in : Elements → Reading SchemaError (List SchemaInterface)
nodes_in nodes = if nodes.count == 0 then fault errors.NoNodes else each_node nodes

-- CodeGeneratorRequest
unfoldable pub request_names : Tree → Reading SchemaError (List SchemaInterface)
request_names tree = do
  request ← schema_struct_in tree
  nodes ← schema_list_in (request_nodes request)
  nodes_in nodes

-- "The first word of the first segment of the message is always a pointer pointing to the message's root struct."
abbrev pub names_of : List (List ℕ) → Limits → Result (List SchemaInterface) SchemaError
names_of segments limits = (run_schema (request_names (root_tree limits.depth segments)) limits.words).0

-- the names of a frame, or why there is no frame
abbrev pub names_in_frame : Result (List (List ℕ)) FrameError → Limits → Result (List SchemaInterface) SchemaError
names_in_frame (Ok segments) limits = names_of segments limits
names_in_frame (Err e) limits = Err (errors.Frame e)

-- the names of a file's bytes
abbrev pub names_of_bytes : List ℕ → Limits → Result (List SchemaInterface) SchemaError
names_of_bytes bytes limits = names_in_frame (segments_of bytes) limits
