-- The status of the text of a query, by computing.
use Rattle.std.specs.Prelude.{ℕ, ℤ, List, [], ◌∷◌, ◌++◌, Option, Some, None, cond, chars}
use Rattle.std.specs.Str.{is_utf8}
use Rattle.jp_model.specs.declared.QueryFault.{QueryFault}
use Rattle.jp_model.specs.declared.QueryFault.TheVariants as faults
use Rattle.jp_model.specs.Query.Syntax.{Logical, Origin, root, current, Segments}
use Rattle.jp_model.specs.Query.Limits.{is_oversized}
use Rattle.jp_model.specs.Query.Status.{QueryStatus, refused_query, query, fault_of_query}
use Rattle.jp_query.specs.Reading.Queries.{alone_at, query_at, relative_at}

-- the query that the bytes of a text within the limits spell; brackets and parentheses nest at most 512 deep in it
unfoldable pub read_text : (ℤ → ℤ) → List ℕ → Option Segments
read_text of_int bytes = cond (is_utf8 bytes) (query_at of_int 512 (chars bytes)) None

-- the rel-query that the bytes of a text within the limits spell
unfoldable pub read_relative : (ℤ → ℤ) → List ℕ → Option Segments
read_relative of_int bytes = cond (is_utf8 bytes) (relative_at of_int 512 (chars bytes)) None

-- the logical expression that the bytes of a text within the limits spell, which is all of a filter
unfoldable pub read_alone : (ℤ → ℤ) → List ℕ → Option Logical
read_alone of_int bytes = cond (is_utf8 bytes) (alone_at of_int 512 (chars bytes ++ 0x5D ∷ [])) None

-- the segments that a text spells after an identifier: as a query after `$`, as a rel-query after `@`
abbrev pub read_behind : Origin → (ℤ → ℤ) → List ℕ → Option Segments
read_behind root = read_text
read_behind current = read_relative

-- refused by the fault, or the query
abbrev pub status_by : Segments → Option QueryFault → QueryStatus
status_by q None = query q
status_by q (Some fault) = refused_query fault

-- the status of what is read
abbrev pub status_of_read : Option Segments → QueryStatus
status_of_read None = refused_query faults.Syntax
status_of_read (Some q) = status_by q (fault_of_query q)

-- the status of a text (RFC 9535, section 2.1; profile)
unfoldable pub query_of : List ℕ → QueryStatus
query_of bytes = cond (is_oversized bytes) (refused_query faults.Size) (status_of_read (read_text (λ i. i) bytes))

-- the status of a text as a rel-query (RFC 9535, section 2.3.5.1; profile)
unfoldable pub relative_query_of : List ℕ → QueryStatus
relative_query_of bytes = cond (is_oversized bytes) (refused_query faults.Size) (status_of_read (read_relative (λ i. i) bytes))
