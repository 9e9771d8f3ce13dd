mod Lists
mod Taking
