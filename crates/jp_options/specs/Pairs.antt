-- The options that take two values, and the one that may take none, as those that take one are read.
use Rattle.std.specs.Prelude.{List, [], ◌∷◌, take, codes, Bool, ◌||◌, bytes_eq, if◌then◌else◌}
use Rattle.clap.specs.Words.{Text}
use Rattle.jp_options.specs.declared.pairs.Place.{Place}
use Rattle.jp_options.specs.declared.pairs.Place.TheVariants as places

-- an option that takes a query and a file
abbrev pub is_list_word : Text → Bool
is_list_word word = bytes_eq word (codes "--in") || bytes_eq word (codes "--not-in")

-- `--color` without a value has the value `auto`
abbrev pub valued : Text → Text
valued word = if bytes_eq word (codes "--color") then codes "--color=auto" else word

abbrev mutual
  -- the arguments with the option once more before the file of each list, and with a value of `--color`, up to `--`
  pub paired : List Text → List Text
  paired [] = []
  paired (word ∷ rest) =
      if bytes_eq word (codes "--") then word ∷ rest
      else if is_list_word word then word ∷ paired_query word rest
      else if bytes_eq (take 5 word) (codes "--in=") then word ∷ codes "--in" ∷ paired_file rest
      else if bytes_eq (take 9 word) (codes "--not-in=") then word ∷ codes "--not-in" ∷ paired_file rest
      else valued word ∷ paired rest

  -- the same after such an option
  pub paired_query : Text → List Text → List Text
  paired_query option [] = []
  paired_query option (query ∷ rest) = query ∷ option ∷ paired_file rest

  -- the same after its query
  pub paired_file : List Text → List Text
  paired_file [] = []
  paired_file (file ∷ rest) = file ∷ paired rest

-- the same at a place among the arguments
abbrev pub paired_at : Place → List Text → List Text
paired_at places.Any words = paired words
paired_at (places.Query option) words = paired_query option.now words
paired_at (places.File option) words = option.now ∷ paired_file words
paired_at places.Behind words = words

-- what stands before an argument at a place, that is the option once more before a file
abbrev pub before_word : Place → List Text → List Text
before_word (places.File option) words = option.now ∷ words
before_word _ words = words

-- an argument at a place, as it is read
abbrev pub read_at : Place → Text → Text
read_at places.Any word = valued word
read_at place word = word
