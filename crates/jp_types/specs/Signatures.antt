-- The types of the functions, as the program has them.
use Rattle.std.specs.Prelude.{map, List, [], ◌∷◌, Bool, true, false, ◌&&◌}
use Rattle.jp_model.specs.Query.Syntax.{Argument, constant_argument, nodes_argument, condition, result_argument, Arguments, no_arguments, argument}
use Rattle.jp_model.specs.Query.Typing as typing
use Rattle.jp_model.specs.Query.Typing.{value_kind, nodes_kind, logical_kind, is_kind, is_singular_path}
use Rattle.jp_types.specs.declared.signature.Kind.{Kind}
use Rattle.jp_types.specs.declared.signature.Kind.TheVariants as kinds
use Rattle.jp_types.specs.declared.signature.Signature.{Signature}

-- a type (RFC 9535, section 2.4.1)
abbrev pub kind_view : Kind → typing.Kind
kind_view kinds.Value = value_kind
kind_view kinds.Nodes = nodes_kind
kind_view kinds.Logical = logical_kind

-- the types of a function
abbrev pub signature_view : Signature → typing.Signature
signature_view s = record { parameters = map kind_view s.parameters.now; answer = kind_view s.answer }

-- an argument may stand for a parameter of this type, whatever the functions in it give (section 2.4.3)
abbrev pub fits : Argument → typing.Kind → Bool
fits (constant_argument c) kind = is_kind value_kind kind
fits (nodes_argument p) value_kind = is_singular_path p
fits (nodes_argument p) nodes_kind = true
fits (nodes_argument p) logical_kind = true
fits (condition l) kind = is_kind logical_kind kind
fits (result_argument c) kind = true

-- each argument may stand for its parameter, and there are as many (section 2.4.3)
abbrev pub all_fit : Arguments → List typing.Kind → Bool
all_fit no_arguments [] = true
all_fit (argument a args) (kind ∷ kinds) = fits a kind && all_fit args kinds
all_fit no_arguments (kind ∷ kinds) = false
all_fit (argument a args) [] = false
