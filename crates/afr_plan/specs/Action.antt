-- What a command does to the object of its path, and which bytes say a command.
use Rattle.std.specs.Prelude.{ℕ, List, codes}
use Rattle.afr_plan.specs.Data.{IsData}
use Rattle.afr_plan.specs.Spelling.{IsKey, IsNamedPath, IsNumber, IsPath, WordThen, Both}

-- by its word; bytes, keys and values stand as they are, and the second path of a rename as its names
pub data Action : Type 0 where
  Write : (at : ℕ) (bytes : List ℕ) → Action
  Cut : (len : ℕ) → Action
  Read : (at len : ℕ) → Action
  Create : Action
  Mkdir : Action
  Unlink : Action
  Rmdir : Action
  Ls : Action
  Stat : Action
  SetAttr : (key value : List ℕ) → Action
  GetAttr : (key : List ℕ) → Action
  Rename : (to : List (List ℕ)) → Action

-- the word that stands for the action
abbrev pub action_word : Action → List ℕ
action_word (Write at bytes) = codes "write"
action_word (Cut len) = codes "cut"
action_word (Read at len) = codes "read"
action_word Create = codes "create"
action_word Mkdir = codes "mkdir"
action_word Unlink = codes "unlink"
action_word Rmdir = codes "rmdir"
action_word Ls = codes "ls"
action_word Stat = codes "stat"
action_word (SetAttr key value) = codes "setattr"
action_word (GetAttr key) = codes "getattr"
action_word (Rename to) = codes "rename"

-- the bytes of a line say a command on a path
abbrev pub IsCommand : List ℕ → List (List ℕ) → Action → Type 0
IsCommand line path (Write at bytes) = WordThen (codes "write ") (Both IsPath (WordThen (codes " ") (Both IsNumber (WordThen (codes " ") IsData)))) line (path, (at, bytes))
IsCommand line path (Cut len) = WordThen (codes "cut ") (Both IsPath (WordThen (codes " ") IsNumber)) line (path, len)
IsCommand line path (Read at len) = WordThen (codes "read ") (Both IsPath (WordThen (codes " ") (Both IsNumber (WordThen (codes " ") IsNumber)))) line (path, (at, len))
IsCommand line path Create = WordThen (codes "create ") IsNamedPath line path
IsCommand line path Mkdir = WordThen (codes "mkdir ") IsNamedPath line path
IsCommand line path Unlink = WordThen (codes "unlink ") IsNamedPath line path
IsCommand line path Rmdir = WordThen (codes "rmdir ") IsNamedPath line path
IsCommand line path Ls = WordThen (codes "ls ") IsPath line path
IsCommand line path Stat = WordThen (codes "stat ") IsPath line path
IsCommand line path (SetAttr key value) = WordThen (codes "setattr ") (Both IsPath (WordThen (codes " ") (Both IsKey (WordThen (codes " ") IsKey)))) line (path, (key, value))
IsCommand line path (GetAttr key) = WordThen (codes "getattr ") (Both IsPath (WordThen (codes " ") IsKey)) line (path, key)
IsCommand line path (Rename to) = WordThen (codes "rename ") (Both IsNamedPath (WordThen (codes " ") IsNamedPath)) line (path, to)
